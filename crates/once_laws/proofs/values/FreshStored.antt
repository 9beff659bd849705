-- Where no call of a request is stored twice, no value stands twice among what the entries of a run
-- drew.
use Rattle.std.proofs.Common.{◌≡◌, refl, sym, ap, subst, ◌∙◌, arith, ℕ, suc, zero, ◌+◌, ◌≤◌, ◌&&◌, not, Bool, true, false, List, [], ◌∷◌, ◌++◌, map, Option, Some, ◌⊎◌, inl, inr, if◌then◌else◌}
use Rattle.std.specs.Prelude.{◌==◌, flat_map, slice_get}
use Rattle.std.specs.List.{list_any}
use Rattle.std.proofs.lemmas.Bool.{and_parts, and_from, or_cases, or_left, or_right}
use Rattle.std.proofs.lemmas.List.Folds.{list_any-append}
use Rattle.svc_values.specs.declared.draw.Draw.{Draw}
use Rattle.svc_values.specs.meaning.Same.{same_draw}
use Rattle.outage_schedule.specs.declared.item.Item.{Item}
use Rattle.outage_schedule.specs.declared.item.Item.TheVariants as item
use Rattle.world_model.specs.meaning.Frames.{Owner, Handled}
use Rattle.world_model.specs.meaning.Links.{Link}
use Rattle.invariant_laws.specs.Once.{Given, given_as, stopped_draws, given_by, given_on, given}
use Rattle.world_model.specs.Sames.{all_with, each_pair, same_owners}
use Rattle.world_model.specs.Traced.{Traced}
use Rattle.once_laws.specs.StoredOnce.{is_call, is_stored_next, stored_of, given_to, given_in, StoredCall, stored_call, are_apart}
use Rattle.once_laws.proofs.values.DrawnOnce.{times, times_both, time_some}
use Rattle.once_laws.proofs.values.OwnedLists.{Stands, stands_any, From, from_one, one_first, firsts}
use Rattle.invariant_laws.proofs.Offered.{owners_are}
use Rattle.world_model.proofs.Offered.{owners_self, eq_from, eq_to}

-- SUMS --------------------------------------------------------------------------------------------

abbrev pub total : {A : Type 0} → (A → ℕ) → List A → ℕ
total weight [] = 0
total weight (x ∷ xs) = weight x + total weight xs

pub total_at : {A : Type 0} (weight : A → ℕ) (xs : List A) (index : ℕ) (x : A) → slice_get xs index ≡ Some x → weight x ≤ total weight xs
total_at weight [] index x at = absurd (let none : ⊥ = cc in none)
total_at weight (y ∷ ys) zero x at = let same : y ≡ x = cc in let equal : weight y ≡ weight x = ap weight same in omega (arith, equal)
total_at weight (y ∷ ys) (suc index) x at = let rest = total_at weight ys index x at in omega (arith, rest)

pub total_any : {A : Type 0} (weight : A → ℕ) (test : A → Bool) (least : ℕ) (xs : List A) → ((x : A) → test x ≡ true → least ≤ weight x) → list_any test xs ≡ true → least ≤ total weight xs
total_any weight test least [] gives any = absurd (let none : ⊥ = cc in none)
total_any weight test least (x ∷ xs) gives any = by (or_cases (test x) (list_any test xs) any) (total_any weight test least xs gives)
  where
    by : (test x ≡ true) ⊎ (list_any test xs ≡ true) → (list_any test xs ≡ true → least ≤ total weight xs) → least ≤ weight x + total weight xs
    by (inl here) again = let first = gives x here in omega (arith, first)
    by (inr later) again = let rest = again later in omega (arith, rest)

pub total_both : {A : Type 0} (a b c : A → ℕ) (xs : List A) → ((index : ℕ) (x : A) → slice_get xs index ≡ Some x → a x + b x ≤ c x) → total a xs + total b xs ≤ total c xs
total_both a b c [] each = omega arith
total_both a b c (x ∷ xs) each = let first = each 0 x refl in let rest = total_both a b c xs (λ index y at. each (suc index) y at) in omega (arith, first, rest)

pub total_less : {A : Type 0} (a b : A → ℕ) (xs : List A) → ((index : ℕ) (x : A) → slice_get xs index ≡ Some x → a x ≤ b x) → total a xs ≤ total b xs
total_less a b [] each = omega arith
total_less a b (x ∷ xs) each = let first = each 0 x refl in let rest = total_less a b xs (λ index y at. each (suc index) y at) in omega (arith, first, rest)

pub total_flat : {A : Type 0} (value : Draw) (f : A → List Draw) (xs : List A) → times value (flat_map f xs) ≡ total (λ x. times value (f x)) xs
total_flat value f [] = refl
total_flat value f (x ∷ xs) = let both = times_both value (f x) (flat_map f xs) in let rest = total_flat value f xs in omega (arith, both, rest)

-- AT MOST ONE -------------------------------------------------------------------------------------

abbrev pub drawn : List StoredCall → List Draw
drawn calls = flat_map (λ stored. stored.draws) calls

abbrev pub Each : {A : Type 0} → (A → Type 0) → List A → Type 0
Each P [] = Unit {0}
Each P (x ∷ xs) = P x × Each P xs

each_more : {A : Type 0} (P : A → Type 0) (xs ys : List A) → Each P xs → Each P ys → Each P (xs ++ ys)
each_more P [] ys one other = other
each_more P (x ∷ xs) ys one other = (one.0, each_more P xs ys one.1 other)

pub each_flat : {A B : Type 0} (P : B → Type 0) (f : A → List B) (xs : List A) → ((index : ℕ) (x : A) → slice_get xs index ≡ Some x → Each P (f x)) → Each P (flat_map f xs)
each_flat P f [] each = tt
each_flat P f (x ∷ xs) each = each_more P (f x) (flat_map f xs) (each 0 x refl) (each_flat P f xs (λ index y at. each (suc index) y at))

pub each_stored : (P : StoredCall → Type 0) (stopped : List Draw) (stood : Bool) (served : List Handled) → ((index : ℕ) (one : Handled) → slice_get served index ≡ Some one → P (stored_call stopped one)) → Each P (map (stored_call stopped) (stored_of stood served))
each_stored P stopped stood [] each = tt
each_stored P stopped stood (one ∷ others) each = by (is_call one.served.item && is_stored_next stood (one ∷ others)) (each_stored P stopped stood others (λ index h at. each (suc index) h at))
  where
    by : (test : Bool) → Each P (map (stored_call stopped) (stored_of stood others)) → Each P (map (stored_call stopped) (if test then one ∷ stored_of stood others else stored_of stood others))
    by true rest = (each 0 one refl, rest)
    by false rest = rest

module _ (t : Traced) (value : Draw) (few : firsts (given t) value (given t) ≤ 1) where
  -- what a call was given of the value was given to it
  pub record IsGiven (stored : StoredCall) : Type 0 where
    pub one : Given
    pub stands : Stands one (given t)
    pub same : same_draw value one.value ≡ true
    pub owner : one.owner ≡ stored.one.sent.owner
    pub call : one.call ≡ stored.one.sent.call

  pub record Fits (stored : StoredCall) : Type 0 where
    pub once : times value stored.draws ≤ 1
    pub from : 1 ≤ times value stored.draws → IsGiven stored

  -- so two that were given it are one call of one request
  alike : (a b : StoredCall) → IsGiven a → IsGiven b → are_apart a b ≡ false
  alike a b first second =
      let from_a : From (given t) value first.one = from_one (given t) value first.one first.stands first.same in
      let from_b : From (given t) value second.one = from_one (given t) value second.one second.stands second.same in
      let equal : from_a.one ≡ from_b.one = one_first (given t) value from_a.one from_b.one (given t) from_a.stands from_b.stands from_a.first from_b.first few in
      let owners : a.one.sent.owner ≡ b.one.sent.owner = sym first.owner ∙ (sym from_a.owner ∙ (ap (λ (g : Given). g.owner) equal ∙ (from_b.owner ∙ second.owner))) in
      let calls : a.one.sent.call ≡ b.one.sent.call = sym first.call ∙ (sym from_a.call ∙ (ap (λ (g : Given). g.call) equal ∙ (from_b.call ∙ second.call))) in
      ap not (and_from (same_owners a.one.sent.owner b.one.sent.owner) (a.one.sent.call == b.one.sent.call) (subst (λ (o : Option Owner). same_owners a.one.sent.owner o ≡ true) owners (owners_self a.one.sent.owner)) (eq_to a.one.sent.call b.one.sent.call calls))

  none_behind : (first : StoredCall) (calls : List StoredCall) → IsGiven first → Each Fits calls → all_with (are_apart first) calls ≡ true → times value (drawn calls) ≡ 0
  none_behind first [] is each apart = refl
  none_behind first (stored ∷ calls) is each apart = by (times value stored.draws) refl (none_behind first calls is each.1 parts.1)
    where
      parts : (are_apart first stored ≡ true) × (all_with (are_apart first) calls ≡ true)
      parts = and_parts (are_apart first stored) (all_with (are_apart first) calls) apart

      by : (count : ℕ) → times value stored.draws ≡ count → times value (drawn calls) ≡ 0 → times value (drawn (stored ∷ calls)) ≡ 0
      by zero none rest = let both = times_both value stored.draws (drawn calls) in omega (arith, none, rest, both)
      by (suc count) more rest = let never : false ≡ true = sym (alike first stored is (each.0.from (omega (arith, more)))) ∙ parts.0 in absurd (let none : ⊥ = cc in none)

  pub one_time : (calls : List StoredCall) → Each Fits calls → each_pair are_apart calls ≡ true → times value (drawn calls) ≤ 1
  one_time [] each apart = omega arith
  one_time (stored ∷ calls) each apart = by (times value stored.draws) refl (one_time calls each.1 parts.1)
    where
      parts : (all_with (are_apart stored) calls ≡ true) × (each_pair are_apart calls ≡ true)
      parts = and_parts (all_with (are_apart stored) calls) (each_pair are_apart calls) apart

      both : times value (drawn (stored ∷ calls)) ≡ times value stored.draws + times value (drawn calls)
      both = times_both value stored.draws (drawn calls)

      by : (count : ℕ) → times value stored.draws ≡ count → times value (drawn calls) ≤ 1 → times value (drawn (stored ∷ calls)) ≤ 1
      by zero none rest = omega (arith, both, none, rest)
      by (suc count) more rest =
          let none = none_behind stored calls (each.0.from (omega (arith, more))) each.1 parts.0 in
          let once = each.0.once in
          omega (arith, both, none, once)

-- A CALL'S VALUES ---------------------------------------------------------------------------------

flat_there : {A B : Type 0} (test : B → Bool) (f : A → List B) (xs : List A) (index : ℕ) (x : A) → slice_get xs index ≡ Some x → list_any test (f x) ≡ true → list_any test (flat_map f xs) ≡ true
flat_there test f [] index x at any = absurd (let none : ⊥ = cc in none)
flat_there {A} test f (y ∷ ys) zero x at any =
    let same : y ≡ x = cc in list_any-append test (f y) (flat_map f ys) ∙ or_left (list_any test (f y)) (list_any test (flat_map f ys)) (subst (λ (z : A). list_any test (f z) ≡ true) (sym same) any)
flat_there test f (y ∷ ys) (suc index) x at any = list_any-append test (f y) (flat_map f ys) ∙ or_right (list_any test (f y)) (list_any test (flat_map f ys)) (flat_there test f ys index x at any)

module _ (t : Traced) (value : Draw) (few : firsts (given t) value (given t) ≤ 1) (at_link : ℕ) (link : Link) (there : slice_get t.machine.links at_link ≡ Some link) (at_one : ℕ) (one : Handled) (served : slice_get link.served at_one ≡ Some one) where
  abbrev is_this : Given → Bool
  is_this given = same_draw value given.value && (same_owners given.owner one.sent.owner && (given.call == one.sent.call))

  of_draws : (mark : Bool) (draws : List Draw) → list_any (same_draw value) draws ≡ true → list_any is_this (map (given_as one mark) draws) ≡ true
  of_draws mark [] any = any
  of_draws mark (draw ∷ draws) any = by (or_cases (same_draw value draw) (list_any (same_draw value) draws) any) (of_draws mark draws)
    where
      by : (same_draw value draw ≡ true) ⊎ (list_any (same_draw value) draws ≡ true) → (list_any (same_draw value) draws ≡ true → list_any is_this (map (given_as one mark) draws) ≡ true) → list_any is_this (map (given_as one mark) (draw ∷ draws)) ≡ true
      by (inl here) again =
          or_left (is_this (given_as one mark draw)) (list_any is_this (map (given_as one mark) draws))
          (and_from (same_draw value draw) (same_owners one.sent.owner one.sent.owner && (one.sent.call == one.sent.call)) here
          (and_from (same_owners one.sent.owner one.sent.owner) (one.sent.call == one.sent.call) (owners_self one.sent.owner) (eq_to one.sent.call one.sent.call refl)))
      by (inr later) again = or_right (is_this (given_as one mark draw)) (list_any is_this (map (given_as one mark) draws)) (again later)

  of_item : (it : Item) → list_any (same_draw value) (given_in (stopped_draws t link.held) it) ≡ true → list_any is_this (given_by t link one it) ≡ true
  of_item (item.Call marked called answers draws) any = of_draws marked draws any
  of_item (item.CrashedCall marked called) any = of_draws marked (stopped_draws t link.held) any
  of_item it any = absurd (let none : ⊥ = cc in none)

  pub given_so : 1 ≤ times value (given_to (stopped_draws t link.held) one) → IsGiven t value few (stored_call (stopped_draws t link.held) one)
  given_so some =
      let any = time_some value (given_to (stopped_draws t link.held) one) some in
      let found = stands_any is_this (given t)
      (flat_there is_this (given_on t) t.machine.links at_link link there (flat_there is_this (λ h. given_by t link h h.served.item) link.served at_one one served (of_item one.served.item any))) in
      let parts = and_parts (same_draw value found.0.value) (same_owners found.0.owner one.sent.owner && (found.0.call == one.sent.call)) found.1.1 in
      let more = and_parts (same_owners found.0.owner one.sent.owner) (found.0.call == one.sent.call) parts.1 in
      record { one = found.0; stands = found.1.0; same = parts.0; owner = owners_are found.0.owner one.sent.owner more.0; call = eq_from found.0.call one.sent.call more.1 }

-- where some were given the value, a call was
pub some_given : (t : Traced) (value : Draw) (few : firsts (given t) value (given t) ≤ 1) (calls : List StoredCall) → Each (Fits t value few) calls → 1 ≤ times value (drawn calls) → (one : Given) × (Stands one (given t) × (same_draw value one.value ≡ true))
some_given t value few [] each some = absurd (let never : ⊥ = omega (arith, some) in never)
some_given t value few (stored ∷ calls) each some = by (times value stored.draws) refl (some_given t value few calls each.1)
  where
    both : times value (drawn (stored ∷ calls)) ≡ times value stored.draws + times value (drawn calls)
    both = times_both value stored.draws (drawn calls)

    by : (count : ℕ) → times value stored.draws ≡ count → (1 ≤ times value (drawn calls) → (one : Given) × (Stands one (given t) × (same_draw value one.value ≡ true))) → (one : Given) × (Stands one (given t) × (same_draw value one.value ≡ true))
    by zero none again = again (omega (arith, both, none, some))
    by (suc count) more again = let is = each.0.from (omega (arith, more)) in (is.one, (is.stands, is.same))
