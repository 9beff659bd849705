-- Openings in the order of their events, and the greatest horizon before an event.
use Rattle.std.proofs.Common.{◌≡◌, ℕ, zero, suc, ◌+◌, ◌<◌, ◌≤◌, max, cond, length, get_or, List, [], ◌∷◌, ◌++◌, map, Option, Some, None, Bool, true, false, refl, sym, ap, ◌∙◌, arith}
use Rattle.std.specs.Prelude.{nat_lt}
use Rattle.std.specs.List.Sorted.{IsPartitionPoint, IsPartitionedBy}
use Rattle.std.proofs.lemmas.Bool.{ltb-true, lt-ltb}
use Rattle.run_clauses.specs.meaning.Horizons.{Wanted}
use Rattle.report_horizons.specs.declared.wanted_horizons.Opening.{Opening}
use Rattle.report_horizons.specs.Horizons.{opening_as, last_event, AreOrdered, wanted_with, most_by, part_before}

-- ---- one more opening

pub ordered_more : (event most : ℕ) (all : List Opening) (greatest : ℕ) (at horizon new : ℕ) → last_event event (map opening_as all) ≤ at → new ≡ max greatest horizon
    → AreOrdered event most all greatest → AreOrdered event most (all ++ record { event = at; horizon = horizon; most = new } ∷ []) new
ordered_more event most [] greatest at horizon new later is ordered = (later, (is ∙ ap (λ n. max n horizon) (sym ordered), refl))
ordered_more event most (one ∷ all) greatest at horizon new later is ordered = (ordered.0, (ordered.1.0, ordered_more one.event one.most all greatest at horizon new later is ordered.1.1))

last_more : (event : ℕ) (all : List Wanted) (one : Wanted) → last_event event (all ++ one ∷ []) ≡ one.event
last_more event [] one = refl
last_more event (first ∷ all) one = last_more first.event all one

-- the events of the openings that were put so far
pub last_within : (all new : List Wanted) (at : ℕ) (horizon : Option ℕ) → new ≡ all ++ wanted_with (at + 1) horizon → last_event 0 all ≤ at → last_event 0 new ≤ at + 1
last_within all new at (Some horizon) is within =
    let last = ap (last_event 0) is ∙ last_more 0 all (record { event = at + 1; horizon = horizon }) in
    omega (arith, last)
last_within all new at None is within =
    let last = ap (last_event 0) (is ∙ none all) in
    omega (arith, last, within)
  where
    none : (l : List Wanted) → l ++ [] ≡ l
    none [] = refl
    none (x ∷ l) = ap (λ rest. x ∷ rest) (none l)

-- ---- events rise

above : (event most : ℕ) (all : List Opening) (greatest : ℕ) → AreOrdered event most all greatest → (i : ℕ) (d : Opening) → i < length all → event ≤ (get_or all i d).event
above event most [] greatest ordered i d within = absurd (omega (arith, within))
above event most (one ∷ all) greatest ordered zero d within = ordered.0
above event most (one ∷ all) greatest ordered (suc i) d within =
    let first = ordered.0 in
    let rest = above one.event one.most all greatest ordered.1.1 i d (omega (arith, within)) in
    omega (arith, first, rest)

rise : (event most : ℕ) (all : List Opening) (greatest : ℕ) → AreOrdered event most all greatest → (i j : ℕ) (d : Opening) → i ≤ j → j < length all → (get_or all i d).event ≤ (get_or all j d).event
rise event most [] greatest ordered i j d up within = absurd (omega (arith, within))
rise event most (one ∷ all) greatest ordered zero zero d up within = omega arith
rise event most (one ∷ all) greatest ordered zero (suc j) d up within = above one.event one.most all greatest ordered.1.1 j d (omega (arith, within))
rise event most (one ∷ all) greatest ordered (suc i) zero d up within = absurd (omega (arith, up))
rise event most (one ∷ all) greatest ordered (suc i) (suc j) d up within = rise one.event one.most all greatest ordered.1.1 i j d (omega (arith, up)) (omega (arith, within))

pub parted : (all : List Opening) (greatest event : ℕ) → AreOrdered 0 0 all greatest → IsPartitionedBy (λ (one : Opening). nat_lt one.event event) all
parted all greatest event ordered = λ i j d up within is.
    let below = ltb-true (get_or all j d).event event is in
    let no_later = rise 0 0 all greatest ordered i j d up within in
    lt-ltb (get_or all i d).event event (omega (arith, below, no_later))

-- ---- the greatest before an event

-- the greatest by the first few, where it was this one before them
abbrev after : ℕ → ℕ → List Opening → ℕ
after most zero all = most
after most (suc n) [] = most
after most (suc n) (one ∷ all) = after one.most n all

after_read : (most n : ℕ) (all : List Opening) (d : Opening) → n < length all → after most (suc n) all ≡ (get_or all n d).most
after_read most n [] d within = absurd (omega (arith, within))
after_read most zero (one ∷ all) d within = refl
after_read most (suc n) (one ∷ all) d within = after_read one.most n all d (omega (arith, within))

abbrev Before : ℕ → List Opening → ℕ → Type 0
Before event all n = (k : ℕ) (d : Opening) → k < n → nat_lt (get_or all k d).event event ≡ true

abbrev Behind : ℕ → List Opening → ℕ → Type 0
Behind event all n = (k : ℕ) (d : Opening) → n ≤ k → k < length all → nat_lt (get_or all k d).event event ≡ false

abbrev greatest_before : ℕ → List Opening → ℕ
greatest_before event all = most_by (part_before event) (map opening_as all)

before_is : (event : ℕ) (one : Wanted) (test : Bool) → nat_lt one.event event ≡ test → part_before event one ≡ cond test one.horizon 0
before_is event one test is = ap (λ (b : Bool). cond b one.horizon 0) is

none_before : (event : ℕ) (all : List Opening) → Behind event all 0 → greatest_before event all ≡ 0
none_before event [] behind = refl
none_before event (one ∷ all) behind =
    let here = before_is event (opening_as one) false (behind 0 one (omega arith) (omega arith)) in
    let rest = none_before event all (λ k d up within. behind (suc k) d (omega arith) (omega (arith, within))) in
    omega (arith, here, rest)

by_first : (from most : ℕ) (all : List Opening) (greatest event n : ℕ) → AreOrdered from most all greatest → n ≤ length all → Before event all n → Behind event all n
    → after most n all ≡ max most (greatest_before event all)
by_first from most all greatest event zero ordered within before behind = let none = none_before event all behind in omega (arith, none)
by_first from most [] greatest event (suc n) ordered within before behind = absurd (omega (arith, within))
by_first from most (one ∷ all) greatest event (suc n) ordered within before behind =
    let here = before_is event (opening_as one) true (before 0 one (omega arith)) in
    let so_far = ordered.1.0 in
    let rest = by_first one.event one.most all greatest event n ordered.1.1 (omega (arith, within)) (λ k d below. before (suc k) d (omega (arith, below)))
    (λ k d up inside. behind (suc k) d (omega (arith, up)) (omega (arith, inside))) in
    omega (arith, here, so_far, rest)

module _ (all : List Opening) (greatest event n : ℕ) (ordered : AreOrdered 0 0 all greatest) (within : n ≤ length all)
    (point : IsPartitionPoint (λ (one : Opening). nat_lt one.event event ≡ true) (λ (one : Opening). nat_lt one.event event ≡ false) all n) where
  counted : after 0 n all ≡ greatest_before event all
  counted =
      let is = by_first 0 0 all greatest event n ordered within (λ k d below. point.0 k d (omega arith) below) (λ k d up inside. point.1 k d up inside) in
      omega (arith, is)

  pub none_is : n ≡ 0 → 0 ≡ greatest_before event all
  none_is zero_is = sym (ap (λ k. after 0 k all) zero_is) ∙ counted

  pub last_is : (k : ℕ) (d : Opening) → n ≡ suc k → (get_or all k d).most ≡ greatest_before event all
  last_is k d is =
      sym (after_read 0 k all d (omega (arith, is, within))) ∙ sym (ap (λ m. after 0 m all) is) ∙ counted
