-- Of the values that a connection's calls were given, those that are no earlier one's are at most
-- those that were drawn anew.
use Rattle.std.proofs.Common.{◌≡◌, refl, sym, ap, subst, ◌∙◌, arith, ℕ, ◌+◌, ◌≤◌, ◌&&◌, ◌||◌, not, cond, Bool, true, false, List, [], ◌∷◌, map, Option, Some, None, ◌⊎◌, inl, inr, if◌then◌else◌}
use Rattle.std.specs.Prelude.{◌==◌, nat_lt, flat_map, filter}
use Rattle.std.specs.List.{list_all, list_any}
use Rattle.std.specs.Option.{option_map_or}
use Rattle.std.proofs.lemmas.Bool.{and_parts, and_from, or_left, or_right, or_cases}
use Rattle.std.proofs.lemmas.List.Folds.{list_any-append}
use Rattle.svc_values.specs.declared.call.Call.{Call}
use Rattle.svc_values.specs.declared.draw.Draw.{Draw}
use Rattle.svc_values.specs.declared.frame.Up.{Up}
use Rattle.svc_values.specs.declared.frame.Up.TheVariants as up
use Rattle.svc_values.specs.meaning.Same.{same_draw}
use Rattle.svc_values.specs.SameLaws.{same_draw_decides, same_draws_decide}
use Rattle.outage_schedule.specs.declared.item.Item.{Item}
use Rattle.outage_schedule.specs.declared.item.Item.TheVariants as item
use Rattle.server_model.specs.meaning.Base.{Base}
use Rattle.server_model.specs.meaning.NewValues.{Origin, Kept, New, origin_of, left_by, of_one_kind, and_before, grants, kept_by, if_new, new_among}
use Rattle.world_model.specs.meaning.Crashing.{is_crashed_item}
use Rattle.world_model.specs.meaning.Frames.{Owner, Handled}
use Rattle.world_model.specs.meaning.Links.{Link}
use Rattle.invariant_laws.specs.Once.{Given, given_as, stopped_draws, given_by, given_on, given}
use Rattle.world_model.specs.Sames.{owned_by, same_owners}
use Rattle.world_model.specs.meaning.Serving.{is_item_of}
use Rattle.world_model.specs.Traced.{Traced}
use Rattle.world_model.specs.records.Wire.{is_handled, counted_with, handled_from}
use Rattle.once_laws.proofs.Offered.{times, times_both, is_origin, has_origin, firsts, firsts_both, gave_before, kept_given, repeats_given, gives_draws, gives_to, is_nothing, any_served}
use Rattle.fresh_laws.proofs.FrameDraws.{anew, is_kept_first, are_drawn, is_drawn}
use Rattle.world_model.proofs.Offered.{Was, Ordinary, Halted, was_so, owners_self, owned_is}

-- A CALL ------------------------------------------------------------------------------------------

abbrev one_if : Bool → ℕ
one_if test = cond test 1 0

module _ (whole : List Given) (value : Draw) where
  fewer_first : (same test : Bool) → one_if (same && not test) ≤ one_if same
  fewer_first true true = omega arith
  fewer_first true false = omega arith
  fewer_first false test = omega arith

  -- of draws that are all new ones
  new_firsts : (one : Handled) (mark : Bool) (draws : List Draw) → firsts whole value (map (given_as one mark) draws) ≤ times value draws
  new_firsts one mark [] = omega arith
  new_firsts one mark (given ∷ draws) =
      let rest = new_firsts one mark draws in
      let here = fewer_first (same_draw value given) (has_origin whole (given_as one mark given)) in
      omega (arith, rest, here)

  -- what was kept of a kind stood among those that were kept
  kept_among : (given : Draw) (kept : List Draw) (first : Draw) (left : List Draw) → origin_of given kept ≡ Kept first left
      → (list_any (same_draw first) kept ≡ true) × ((other : Draw) → list_any (same_draw other) left ≡ true → list_any (same_draw other) kept ≡ true)
  kept_among given [] first left is = absurd (let none : ⊥ = cc in none)
  kept_among given (one ∷ kept) first left is = by (of_one_kind one given) is (λ f l e. kept_among given kept f l e)
    where
      behind : (origin : Origin) → origin_of given kept ≡ origin → and_before one origin ≡ Kept first left
          → ((f : Draw) (l : List Draw) → origin_of given kept ≡ Kept f l → (list_any (same_draw f) kept ≡ true) × ((other : Draw) → list_any (same_draw other) l ≡ true → list_any (same_draw other) kept ≡ true))
          → (list_any (same_draw first) (one ∷ kept) ≡ true) × ((other : Draw) → list_any (same_draw other) left ≡ true → list_any (same_draw other) (one ∷ kept) ≡ true)
      behind New found same again = absurd (let none : ⊥ = cc in none)
      behind (Kept f l) found same again =
          let firsts_same : f ≡ first = cc in
          let lefts_same : one ∷ l ≡ left = cc in
          let rest = again f l found in (
            or_right (same_draw first one) (list_any (same_draw first) kept) (subst (λ (d : Draw). list_any (same_draw d) kept ≡ true) firsts_same rest.0),
            λ other any. other_of other (or_cases (same_draw other one) (list_any (same_draw other) l) (ap (list_any (same_draw other)) lefts_same ∙ any)) rest.1,
          )
        where
          other_of : (other : Draw) → (same_draw other one ≡ true) ⊎ (list_any (same_draw other) l ≡ true) → ((o : Draw) → list_any (same_draw o) l ≡ true → list_any (same_draw o) kept ≡ true) → list_any (same_draw other) (one ∷ kept) ≡ true
          other_of other (inl here) more = or_left (same_draw other one) (list_any (same_draw other) kept) here
          other_of other (inr later) more = or_right (same_draw other one) (list_any (same_draw other) kept) (more other later)

      by : (test : Bool) → (if test then Kept one kept else and_before one (origin_of given kept)) ≡ Kept first left
          → ((f : Draw) (l : List Draw) → origin_of given kept ≡ Kept f l → (list_any (same_draw f) kept ≡ true) × ((other : Draw) → list_any (same_draw other) l ≡ true → list_any (same_draw other) kept ≡ true))
          → (list_any (same_draw first) (one ∷ kept) ≡ true) × ((other : Draw) → list_any (same_draw other) left ≡ true → list_any (same_draw other) (one ∷ kept) ≡ true)
      by true same again =
          let firsts_same : one ≡ first = cc in
          let lefts_same : kept ≡ left = cc in (
            or_left (same_draw first one) (list_any (same_draw first) kept) (subst (λ (d : Draw). same_draw first d ≡ true) (sym firsts_same) ((same_draw_decides first first).1 refl)),
            λ other any. or_right (same_draw other one) (list_any (same_draw other) kept) (ap (list_any (same_draw other)) lefts_same ∙ any),
          )
      by false same again = behind (origin_of given kept) refl same again

  -- draws of a call, of which each is a new one or a kept one, and each kept one came from an
  -- earlier event
  call_firsts : (one : Handled) (mark : Bool) (kept draws : List Draw) → are_drawn kept draws ≡ true → ((other : Draw) → list_any (same_draw other) kept ≡ true → has_origin whole (given_as one mark other) ≡ true)
      → firsts whole value (map (given_as one mark) draws) ≤ times value (new_among kept draws)
  call_firsts one mark kept [] drawn came = omega arith
  call_firsts one mark kept (given ∷ draws) drawn came = by (origin_of given kept) refl drawn (λ left are more. call_firsts one mark left draws are more)
    where
      by : (origin : Origin) → origin_of given kept ≡ origin → (is_kept_first given origin && are_drawn (left_by origin kept) draws) ≡ true
          → ((left : List Draw) → are_drawn left draws ≡ true → ((other : Draw) → list_any (same_draw other) left ≡ true → has_origin whole (given_as one mark other) ≡ true) → firsts whole value (map (given_as one mark) draws) ≤ times value (new_among left draws))
          → one_if (same_draw value given && not (has_origin whole (given_as one mark given))) + firsts whole value (map (given_as one mark) draws) ≤ times value (if_new origin given (new_among (left_by origin kept) draws))
      by New is are again =
          let rest = again kept are came in
          let here = fewer_first (same_draw value given) (has_origin whole (given_as one mark given)) in
          omega (arith, rest, here)
      by (Kept first left) is are again =
          let parts = and_parts (same_draw given first) (are_drawn left draws) are in
          let stood = kept_among given kept first left is in
          let equal : given ≡ first = (same_draw_decides given first).0 parts.0 in
          let has : has_origin whole (given_as one mark given) ≡ true = came given (subst (λ (d : Draw). list_any (same_draw d) kept ≡ true) (sym equal) stood.0) in
          let none : ◌≡◌ {A = ℕ} (one_if (same_draw value given && not (has_origin whole (given_as one mark given)))) 0 = ap (λ (test : Bool). one_if (same_draw value given && not test)) has ∙ none_of (same_draw value given) in
          let rest = again left parts.1 (λ other any. came other (stood.1 other any)) in
          omega (arith, rest, none)
        where
          none_of : (same : Bool) → one_if (same && false) ≡ 0
          none_of true = refl
          none_of false = refl

any_filtered : (test keep : Draw → Bool) (draws : List Draw) → list_any test (filter keep draws) ≡ true → list_any test draws ≡ true
any_filtered test keep [] any = any
any_filtered test keep (draw ∷ draws) any = by (keep draw) any (any_filtered test keep draws)
  where
    by : (kept : Bool) → list_any test (if kept then draw ∷ filter keep draws else filter keep draws) ≡ true → (list_any test (filter keep draws) ≡ true → list_any test draws ≡ true) → list_any test (draw ∷ draws) ≡ true
    by true any again = with_first (or_cases (test draw) (list_any test (filter keep draws)) any)
      where
        with_first : (test draw ≡ true) ⊎ (list_any test (filter keep draws) ≡ true) → list_any test (draw ∷ draws) ≡ true
        with_first (inl here) = or_left (test draw) (list_any test draws) here
        with_first (inr later) = or_right (test draw) (list_any test draws) (again later)
    by false any again = or_right (test draw) (list_any test draws) (again any)

-- WHERE IT CAME FROM ------------------------------------------------------------------------------

pub flat_any : {A B : Type 0} (test : B → Bool) (f : A → List B) (p : A → Bool) (xs : List A) → ((x : A) → p x ≡ true → list_any test (f x) ≡ true) → list_any p xs ≡ true → list_any test (flat_map f xs) ≡ true
flat_any test f p [] gives any = absurd (let none : ⊥ = cc in none)
flat_any test f p (x ∷ xs) gives any = list_any-append test (f x) (flat_map f xs) ∙ by (or_cases (p x) (list_any p xs) any) (flat_any test f p xs gives)
  where
    by : (p x ≡ true) ⊎ (list_any p xs ≡ true) → (list_any p xs ≡ true → list_any test (flat_map f xs) ≡ true) → (list_any test (f x) || list_any test (flat_map f xs)) ≡ true
    by (inl here) again = or_left (list_any test (f x)) (list_any test (flat_map f xs)) (gives x here)
    by (inr later) again = or_right (list_any test (f x)) (list_any test (flat_map f xs)) (again later)

module _ (t : Traced) (one : Handled) (value : Draw) (owner : Owner) (is : one.sent.owner ≡ Some owner) where
  abbrev again_given : Given
  again_given = given_as one true value

  drawn_origin : (other : Handled) (draws : List Draw) → owned_by owner other.sent ≡ true → (other.sent.call == one.sent.call) ≡ true → nat_lt other.served.event one.served.event ≡ true → list_any (same_draw value) draws ≡ true
      → list_any (is_origin again_given) (map (given_as other false) draws) ≡ true
  drawn_origin other [] mine call before any = any
  drawn_origin other (draw ∷ draws) mine call before any = by (or_cases (same_draw value draw) (list_any (same_draw value) draws) any) (drawn_origin other draws mine call before)
    where
      owners : same_owners other.sent.owner one.sent.owner ≡ true
      owners = ap (λ (o : Option Owner). same_owners o one.sent.owner) (owned_is owner other.sent mine) ∙ (ap (same_owners (Some owner)) is ∙ owners_self (Some owner))

      by : (same_draw value draw ≡ true) ⊎ (list_any (same_draw value) draws ≡ true) → (list_any (same_draw value) draws ≡ true → list_any (is_origin again_given) (map (given_as other false) draws) ≡ true)
          → list_any (is_origin again_given) (map (given_as other false) (draw ∷ draws)) ≡ true
      by (inl here) again =
          or_left (is_origin again_given (given_as other false draw)) (list_any (is_origin again_given) (map (given_as other false) draws))
          (and_from (same_draw value draw) (same_owners other.sent.owner one.sent.owner && ((other.sent.call == one.sent.call) && nat_lt other.served.event one.served.event)) here
          (and_from (same_owners other.sent.owner one.sent.owner) ((other.sent.call == one.sent.call) && nat_lt other.served.event one.served.event) owners
          (and_from (other.sent.call == one.sent.call) (nat_lt other.served.event one.served.event) call before)))
      by (inr later) again = or_right (is_origin again_given (given_as other false draw)) (list_any (is_origin again_given) (map (given_as other false) draws)) (again later)

  item_origin : (kept : List Draw) → list_any (same_draw value) kept ≡ true → (link : Link) (other : Handled) → gave_before owner one.sent.call one.served.event kept other ≡ true → list_any (is_origin again_given) (given_by t link other other.served.item) ≡ true
  item_origin kept among link other gave = by other.served.item three.1
    where
      parts : (gives_to owner one.sent.call kept other ≡ true) × (nat_lt other.served.event one.served.event ≡ true)
      parts = and_parts (gives_to owner one.sent.call kept other) (nat_lt other.served.event one.served.event) gave

      two : (owned_by owner other.sent ≡ true) × (((other.sent.call == one.sent.call) && gives_draws kept other.served.item) ≡ true)
      two = and_parts (owned_by owner other.sent) ((other.sent.call == one.sent.call) && gives_draws kept other.served.item) parts.0

      three : ((other.sent.call == one.sent.call) ≡ true) × (gives_draws kept other.served.item ≡ true)
      three = and_parts (other.sent.call == one.sent.call) (gives_draws kept other.served.item) two.1

      by : (it : Item) → gives_draws kept it ≡ true → list_any (is_origin again_given) (given_by t link other it) ≡ true
      by (item.Call false called answers draws) same = drawn_origin other draws two.0 three.0 parts.1 (ap (list_any (same_draw value)) ((same_draws_decide draws kept).0 same) ∙ among)
      by it any = absurd (let none : ⊥ = cc in none)

  -- the value was given to the call before
  origin_there : (kept : List Draw) → list_any (same_draw value) kept ≡ true → any_served (gave_before owner one.sent.call one.served.event kept) t.machine.links ≡ true → list_any (is_origin again_given) (given t) ≡ true
  origin_there kept among any =
      flat_any (is_origin again_given) (given_on t) (λ link. list_any (gave_before owner one.sent.call one.served.event kept) link.served) t.machine.links
      (λ link any_of. flat_any (is_origin again_given) (λ other. given_by t link other other.served.item) (gave_before owner one.sent.call one.served.event kept) link.served (item_origin kept among link) any_of) any

-- A CONNECTION ------------------------------------------------------------------------------------

module _ (t : Traced) (value : Draw) (base : Base) (link : Link) where
  abbrev whole : List Given
  whole = given t

  abbrev stopped : List Draw
  stopped = stopped_draws t link.held

  abbrev CameBefore : Handled → Up → Type 0
  CameBefore one frame = (kept : List Draw) (called : Call) → frame ≡ up.Call true kept called → (other : Draw) → list_any (same_draw other) kept ≡ true → has_origin whole (given_as one true other) ≡ true

  item_firsts : (one : Handled) (frame : Up) (it : Item) → (is_item_of frame it ≡ true) ⊎ (is_crashed_item frame it ≡ true) → is_drawn base frame it ≡ true → CameBefore one frame
      → firsts whole value (given_by t link one it) ≤ times value (anew base stopped frame it)
  item_firsts one (up.Call true kept called) (item.Call true served answers draws) is drawn came =
      call_firsts whole value one true (kept_by base true kept) draws drawn (λ other any. came kept called refl other (any_filtered (same_draw other) (grants base) kept any))
  item_firsts one (up.Call false kept called) (item.Call false served answers draws) is drawn came = call_firsts whole value one false [] draws drawn (λ other any. absurd (let none : ⊥ = cc in none))
  item_firsts one frame (item.Call marked served answers draws) (inl is) drawn came = absurd (let none : ⊥ = cc in none)
  item_firsts one frame (item.Call marked served answers draws) (inr is) drawn came = absurd (let none : ⊥ = cc in none)
  item_firsts one frame (item.CrashedCall marked served) is drawn came = new_firsts whole value one marked (stopped_draws t link.held)
  item_firsts one frame it is drawn came = omega arith

  came_before : (one : Handled) → repeats_given t.machine.links one ≡ true → CameBefore one one.sent.frame
  came_before one repeated kept called is other any = by one.sent.owner refl (subst (λ (frame : Up). kept_given t.machine.links one frame ≡ true) is repeated)
    where
      by : (owner : Option Owner) → one.sent.owner ≡ owner → option_map_or (λ o. is_nothing kept || any_served (gave_before o one.sent.call one.served.event kept) t.machine.links) owner false ≡ true → has_origin whole (given_as one true other) ≡ true
      by None at all = absurd (let none : ⊥ = cc in none)
      by (Some owner) at all = some_of kept any all
        where
          some_of : (draws : List Draw) → list_any (same_draw other) draws ≡ true → (is_nothing draws || any_served (gave_before owner one.sent.call one.served.event draws) t.machine.links) ≡ true → has_origin whole (given_as one true other) ≡ true
          some_of [] any all = absurd (let none : ⊥ = cc in none)
          some_of (draw ∷ draws) any all = origin_there t one other owner at (draw ∷ draws) any all

  pub served_firsts : (commits : ℕ) (served : List Handled) → handled_from commits served ≡ true → list_all (λ one. is_drawn base one.sent.frame one.served.item) served ≡ true → list_all (repeats_given t.machine.links) served ≡ true
      → firsts whole value (flat_map (λ one. given_by t link one one.served.item) served) ≤ times value (flat_map (λ one. anew base stopped one.sent.frame one.served.item) served)
  served_firsts commits [] handled drawn repeated = omega arith
  served_firsts commits (one ∷ others) handled drawn repeated =
      let now : ℕ = counted_with commits one.served.item in
      let a = and_parts (is_handled now one) (handled_from now others) handled in
      let b = and_parts (is_drawn base one.sent.frame one.served.item) (list_all (λ h. is_drawn base h.sent.frame h.served.item) others) drawn in
      let c = and_parts (repeats_given t.machine.links one) (list_all (repeats_given t.machine.links) others) repeated in
      let here = item_firsts one one.sent.frame one.served.item (either (was_so now one a.0)) b.0 (came_before one c.0) in
      let rest = served_firsts now others a.1 b.1 c.1 in
      let first = firsts_both whole value (given_by t link one one.served.item) (flat_map (λ h. given_by t link h h.served.item) others) in
      let second = times_both value (anew base stopped one.sent.frame one.served.item) (flat_map (λ h. anew base stopped h.sent.frame h.served.item) others) in
      omega (arith, here, rest, first, second)
    where
      either : Was (counted_with commits one.served.item) one → (is_item_of one.sent.frame one.served.item ≡ true) ⊎ (is_crashed_item one.sent.frame one.served.item ≡ true)
      either (Ordinary item_is same) = inl item_is
      either (Halted crashed none) = inr crashed
