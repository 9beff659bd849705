-- Of values among draws, among what calls were given, and among what the entries of sessions drew:
-- how often they stand there.
use Rattle.std.proofs.Common.{◌≡◌, refl, ap, ◌∙◌, arith, ℕ, ◌+◌, ◌≤◌, ◌&&◌, ◌||◌, not, cond, Bool, true, false, List, [], ◌∷◌, ◌++◌, map, ◌⊎◌, inl, inr, if◌then◌else◌}
use Rattle.std.specs.Prelude.{flat_map, filter}
use Rattle.std.specs.List.{list_all}
use Rattle.std.proofs.lemmas.Bool.{and_parts, and_from}
use Rattle.std.proofs.lemmas.List.Concat.{flat_map-append}
use Rattle.svc_values.specs.declared.draw.Draw.{Draw}
use Rattle.svc_values.specs.declared.entry.Entry.{Entry}
use Rattle.svc_values.specs.declared.entry.SessionId.{SessionId}
use Rattle.svc_values.specs.declared.frame.Up.{Up}
use Rattle.svc_values.specs.declared.frame.Up.TheVariants as up
use Rattle.svc_values.specs.meaning.Identifiers.{same_session, session_of}
use Rattle.svc_values.specs.meaning.Same.{same_draw}
use Rattle.svc_values.specs.SameLaws.{same_draw_decides}
use Rattle.outage_schedule.specs.declared.item.Item.{Item}
use Rattle.outage_schedule.specs.declared.item.Item.TheVariants as item
use Rattle.server_model.specs.meaning.Base.{Base}
use Rattle.server_model.specs.meaning.Fresh.{draws_of}
use Rattle.server_model.specs.meaning.NewValues.{Origin, Kept, New, origin_of, left_by, of_one_kind, and_before, if_new, new_among}
use Rattle.world_model.specs.meaning.Crashing.{is_crashed_item}
use Rattle.world_model.specs.meaning.Frames.{Handled}
use Rattle.invariant_laws.specs.Once.{given}
use Rattle.world_model.specs.Sames.{all_with, each_pair}
use Rattle.world_model.specs.meaning.Serving.{is_item_of}
use Rattle.fresh_laws.proofs.DrawnFor.{among}
use Rattle.once_laws.proofs.Offered.{times, times_both, all_new, total, drawn as stored_drawn}
use Rattle.fresh_laws.proofs.FrameDraws.{kept_with, anew, is_kept_first, are_drawn}
use Rattle.invariant_laws.proofs.Offered.{is_its}
use Rattle.world_model.proofs.Offered.{same_session_is}
use Rattle.once_laws.specs.StoredOnce.{given_to, StoredCall, stored_call}

-- THE VALUES OF ONE CALL --------------------------------------------------------------------------

abbrev pub one_if : Bool → ℕ
one_if test = cond test 1 0

module _ (value : Draw) where
  pub kept_times : (given : Draw) (kept : List Draw) (first : Draw) (left : List Draw) → origin_of given kept ≡ Kept first left → times value kept ≡ one_if (same_draw value first) + times value left
  kept_times given [] first left is = absurd (let none : ⊥ = cc in none)
  kept_times given (one ∷ kept) first left is = by (of_one_kind one given) is (kept_times given kept)
    where
      behind : (origin : Origin) → origin_of given kept ≡ origin → and_before one origin ≡ Kept first left → ((f : Draw) (l : List Draw) → origin_of given kept ≡ Kept f l → times value kept ≡ one_if (same_draw value f) + times value l)
          → times value (one ∷ kept) ≡ one_if (same_draw value first) + times value left
      behind New found same again = absurd (let none : ⊥ = cc in none)
      behind (Kept f l) found same again =
          let firsts_same : f ≡ first = cc in
          let lefts_same : one ∷ l ≡ left = cc in
          let rest = again f l found in
          let a : one_if (same_draw value f) ≡ one_if (same_draw value first) = ap (λ (d : Draw). one_if (same_draw value d)) firsts_same in
          let b : times value (one ∷ l) ≡ times value left = ap (times value) lefts_same in
          omega (arith, rest, a, b)

      by : (test : Bool) → (if test then Kept one kept else and_before one (origin_of given kept)) ≡ Kept first left → ((f : Draw) (l : List Draw) → origin_of given kept ≡ Kept f l → times value kept ≡ one_if (same_draw value f) + times value l)
          → times value (one ∷ kept) ≡ one_if (same_draw value first) + times value left
      by true same again =
          let firsts_same : one ≡ first = cc in
          let lefts_same : kept ≡ left = cc in
          let a : one_if (same_draw value one) ≡ one_if (same_draw value first) = ap (λ (d : Draw). one_if (same_draw value d)) firsts_same in
          let b : times value kept ≡ times value left = ap (times value) lefts_same in
          omega (arith, a, b)
      by false same again = behind (origin_of given kept) refl same again

  -- draws are new ones and kept ones
  pub split_times : (kept draws : List Draw) → are_drawn kept draws ≡ true → times value draws ≤ times value (new_among kept draws) + times value kept
  split_times kept [] are = omega arith
  split_times kept (given ∷ draws) are = by (origin_of given kept) refl are (λ left so. split_times left draws so)
    where
      by : (origin : Origin) → origin_of given kept ≡ origin → (is_kept_first given origin && are_drawn (left_by origin kept) draws) ≡ true → ((left : List Draw) → are_drawn left draws ≡ true → times value draws ≤ times value (new_among left draws) + times value left)
          → one_if (same_draw value given) + times value draws ≤ times value (if_new origin given (new_among (left_by origin kept) draws)) + times value kept
      by New is so again = let rest = again kept so in omega (arith, rest)
      by (Kept first left) is so again =
          let parts = and_parts (same_draw given first) (are_drawn left draws) so in
          let rest = again left parts.1 in
          let all = kept_times given kept first left is in
          let same : one_if (same_draw value given) ≡ one_if (same_draw value first) = ap (λ (d : Draw). one_if (same_draw value d)) ((same_draw_decides given first).0 parts.0) in
          omega (arith, rest, all, same)

  pub fewer_kept : (keep : Draw → Bool) (draws : List Draw) → times value (filter keep draws) ≤ times value draws
  fewer_kept keep [] = omega arith
  fewer_kept keep (draw ∷ draws) = by (keep draw) (fewer_kept keep draws)
    where
      by : (kept : Bool) → times value (filter keep draws) ≤ times value draws → times value (if kept then draw ∷ filter keep draws else filter keep draws) ≤ one_if (same_draw value draw) + times value draws
      by true rest = omega (arith, rest)
      by false rest = omega (arith, rest)

-- what a marked call drew anew, and what one without the mark was given
abbrev pub of_marked : Base → List Draw → Up → Item → List Draw
of_marked base stopped frame (item.Call true called answers draws) = new_among (kept_with base frame) draws
of_marked base stopped frame _ = []

abbrev pub of_plain : Item → List Draw
of_plain (item.Call false called answers draws) = draws
of_plain _ = []

pub both_anew : (value : Draw) (base : Base) (stopped : List Draw) (frame : Up) (it : Item) → (is_item_of frame it ≡ true) ⊎ (is_crashed_item frame it ≡ true) → times value (of_marked base stopped frame it) + times value (of_plain it) ≤ times value (anew base stopped frame it)
both_anew value base stopped frame (item.Call true called answers draws) is = omega arith
both_anew value base stopped (up.Call false kept call) (item.Call false called answers draws) is = let same : times value (new_among [] draws) ≡ times value draws = ap (times value) (all_new draws) in omega (arith, same)
both_anew value base stopped frame (item.Call false called answers draws) (inl is) = absurd (let none : ⊥ = cc in none)
both_anew value base stopped frame (item.Call false called answers draws) (inr is) = absurd (let none : ⊥ = cc in none)
both_anew value base stopped frame (item.CrashedCall marked called) is = omega arith
both_anew value base stopped frame it is = omega arith

-- SESSIONS ----------------------------------------------------------------------------------------

-- each session once
abbrev pub distinct : List SessionId → List SessionId
distinct [] = []
distinct (session ∷ rest) = if among rest session then distinct rest else session ∷ distinct rest

pub distinct_among : (sessions : List SessionId) (session : SessionId) → among (distinct sessions) session ≡ among sessions session
distinct_among [] session = refl
distinct_among (first ∷ rest) session = by (among rest first) refl (distinct_among rest session)
  where
    by : (test : Bool) → among rest first ≡ test → among (distinct rest) session ≡ among rest session → among (if test then distinct rest else first ∷ distinct rest) session ≡ (same_session session first || among rest session)
    by false is again = ap (λ (more : Bool). same_session session first || more) again
    by true is again = again ∙ of (same_session session first) refl
      where
        of : (same : Bool) → same_session session first ≡ same → among rest session ≡ (same || among rest session)
        of true same = ap (among rest) (same_session_is session first same) ∙ is
        of false same = refl

pub none_with : (first : SessionId) (others : List SessionId) → among others first ≡ false → all_with (λ other. not (same_session first other)) others ≡ true
none_with first [] none = refl
none_with first (other ∷ others) none = by (same_session first other) none (none_with first others)
  where
    by : (same : Bool) → (same || among others first) ≡ false → (among others first ≡ false → all_with (λ one. not (same_session first one)) others ≡ true) → (not same && all_with (λ one. not (same_session first one)) others) ≡ true
    by true none again = absurd (let never : ⊥ = cc in never)
    by false none again = again none

pub distinct_apart : (sessions : List SessionId) → each_pair (λ a b. not (same_session a b)) (distinct sessions) ≡ true
distinct_apart [] = refl
distinct_apart (first ∷ rest) = by (among rest first) refl (distinct_apart rest)
  where
    by : (test : Bool) → among rest first ≡ test → each_pair (λ a b. not (same_session a b)) (distinct rest) ≡ true → each_pair (λ a b. not (same_session a b)) (if test then distinct rest else first ∷ distinct rest) ≡ true
    by true is again = again
    by false is again = and_from (all_with (λ other. not (same_session first other)) (distinct rest)) (each_pair (λ a b. not (same_session a b)) (distinct rest)) (none_with first (distinct rest) (distinct_among rest first ∙ is)) again

-- how often a value stands among what the entries of a session drew
abbrev pub of_session : Draw → List Entry → SessionId → ℕ
of_session value entries session = times value (flat_map draws_of (filter (is_its session) entries))

pub more_total : (value : Draw) (entry : Entry) (entries : List Entry) (sessions : List SessionId) → (if among sessions (session_of entry.ltxid) then times value (draws_of entry) else 0) + total (of_session value entries) sessions ≤ total (of_session value (entry ∷ entries)) sessions
more_total value entry entries [] = omega arith
more_total value entry entries (session ∷ sessions) = by (same_session (session_of entry.ltxid) session) (among sessions (session_of entry.ltxid)) (more_total value entry entries sessions)
  where
    by : (own others : Bool) → (if others then times value (draws_of entry) else 0) + total (of_session value entries) sessions ≤ total (of_session value (entry ∷ entries)) sessions
        → (if own || others then times value (draws_of entry) else 0) + (of_session value entries session + total (of_session value entries) sessions)
        ≤ times value (flat_map draws_of (if own then entry ∷ filter (is_its session) entries else filter (is_its session) entries)) + total (of_session value (entry ∷ entries)) sessions
    by true true rest = let both = times_both value (draws_of entry) (flat_map draws_of (filter (is_its session) entries)) in omega (arith, rest, both)
    by true false rest = let both = times_both value (draws_of entry) (flat_map draws_of (filter (is_its session) entries)) in omega (arith, rest, both)
    by false true rest = omega (arith, rest)
    by false false rest = omega (arith, rest)

pub covered : (value : Draw) (sessions : List SessionId) (entries : List Entry) → list_all (λ entry. among sessions (session_of entry.ltxid)) entries ≡ true → times value (flat_map draws_of entries) ≤ total (of_session value entries) sessions
covered value sessions [] all = omega arith
covered value sessions (entry ∷ entries) all =
    let parts = and_parts (among sessions (session_of entry.ltxid)) (list_all (λ one. among sessions (session_of one.ltxid)) entries) all in
    let rest = covered value sessions entries parts.1 in
    let more = more_total value entry entries sessions in
    let own : (if among sessions (session_of entry.ltxid) then times value (draws_of entry) else 0) ≡ times value (draws_of entry) = ap (λ (test : Bool). if test then times value (draws_of entry) else 0) parts.0 in
    let both = times_both value (draws_of entry) (flat_map draws_of entries) in
    omega (arith, rest, more, own, both)

pub total_append : {A : Type 0} (weight : A → ℕ) (xs ys : List A) → total weight (xs ++ ys) ≡ total weight xs + total weight ys
total_append weight [] ys = omega arith
total_append weight (x ∷ xs) ys = let rest = total_append weight xs ys in omega (arith, rest)

pub mapped_drawn : (stopped : List Draw) (calls : List Handled) → stored_drawn (map (stored_call stopped) calls) ≡ flat_map (given_to stopped) calls
mapped_drawn stopped [] = refl
mapped_drawn stopped (one ∷ calls) = ap (λ (more : List Draw). given_to stopped one ++ more) (mapped_drawn stopped calls)

pub flat_drawn : {A : Type 0} (value : Draw) (f : A → List StoredCall) (xs : List A) → times value (stored_drawn (flat_map f xs)) ≡ total (λ x. times value (stored_drawn (f x))) xs
flat_drawn value f [] = refl
flat_drawn value f (x ∷ xs) =
    let rest = flat_drawn value f xs in
    let both = times_both value (stored_drawn (f x)) (stored_drawn (flat_map f xs)) in
    ap (times value) (flat_map-append (λ (stored : StoredCall). stored.draws) (f x) (flat_map f xs)) ∙ (both ∙ ap (λ (n : ℕ). times value (stored_drawn (f x)) + n) rest)
