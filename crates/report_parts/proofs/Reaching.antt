-- The steps of a client, cut where its parts end.
use Rattle.std.proofs.Common.{◌≡◌, refl, sym, ap, subst, ◌∙◌, ℕ, suc, ◌+◌, ◌<◌, ◌≤◌, Bool, true, false, cond, min, length, get_or, take, drop, List, [], ◌∷◌, map, arith, add-one}
use Rattle.std.specs.Prelude.{nat_le}
use Rattle.std.proofs.lemmas.Bool.{le-leb, lt-leb, leb-true, leb-false}
use Rattle.std.proofs.lemmas.List.{drop_more, drop_all}
use Rattle.shown_clauses.specs.meaning.Fronts.{front_from, front_of, rest_from, rest_of}
use Rattle.shown_clauses.specs.meaning.Parts.{Counted, acquires, counted_from, is_acquired_by, Part, parts_from}
use Rattle.shown_clauses.specs.meaning.Steps.{Step}
use Rattle.shown_clauses.specs.meaning.Submissions.{Submission}
use Rattle.report_story.specs.declared.steps.Step.{Step as StepAt}
use Rattle.report_story.specs.Views.{step_as}
use Rattle.report_parts.specs.Cutting.{step_in, IsReach}

-- fronts and rests, one item after the other
front_more : (test : Counted → Bool) (x : Counted) (xs : List Counted) → front_from test true x xs ≡ x ∷ front_of test xs
front_more test x [] = refl
front_more test x (y ∷ xs) = refl

rest_more : (test : Counted → Bool) (x : Counted) (xs : List Counted) → rest_from test true x xs ≡ rest_of test xs
rest_more test x [] = refl
rest_more test x (y ∷ xs) = refl

abbrev first_count : ℕ → Step → ℕ
first_count before step = before + cond (acquires step) 1 0

-- the first step goes in
pub reach_more : (step : Step) (steps : List Step) (before upto len after : ℕ) → first_count before step ≤ upto → IsReach steps (first_count before step) upto len after → IsReach (step ∷ steps) before upto (len + 1) after
reach_more step steps before upto len after within is =
    let now = first_count before step in
    let counted : Counted = record { acquired = now; step = step } in
    let goes : nat_le now upto ≡ true = le-leb now upto within in
    let most_one : cond (acquires step) 1 0 ≤ 1 = one_at_most (acquires step) in
    let len_is : len + 1 ≡ suc len = add-one len in
    let below = is.within in
    let most = is.most in
    record {
      within = omega (arith, below);
      most = omega (arith, most, most_one);
      front = ap (λ b. map step_in (front_from (is_acquired_by upto) b counted (counted_from now steps))) goes
          ∙ (ap (map step_in) (front_more (is_acquired_by upto) counted (counted_from now steps))
          ∙ (ap (λ (rest : List Step). step ∷ rest) is.front ∙ sym (ap (λ n. take n (step ∷ steps)) len_is)));
      rest = ap (λ b. rest_from (is_acquired_by upto) b counted (counted_from now steps)) goes
          ∙ (rest_more (is_acquired_by upto) counted (counted_from now steps)
          ∙ (is.rest ∙ sym (ap (λ n. counted_from after (drop n (step ∷ steps))) len_is)));
    }
  where
    one_at_most : (b : Bool) → cond b 1 0 ≤ 1
    one_at_most true = omega arith
    one_at_most false = omega arith

-- the first step stays out
pub reach_stops : (step : Step) (steps : List Step) (before upto : ℕ) → upto < first_count before step → IsReach (step ∷ steps) before upto 0 before
reach_stops step steps before upto above =
    let now = first_count before step in
    let counted : Counted = record { acquired = now; step = step } in
    let stops : nat_le now upto ≡ false = lt-leb now upto above in
    record {
      within = omega arith;
      most = omega arith;
      front = ap (λ b. map step_in (front_from (is_acquired_by upto) b counted (counted_from now steps))) stops;
      rest = ap (λ b. rest_from (is_acquired_by upto) b counted (counted_from now steps)) stops;
    }

pub reach_none : (before upto : ℕ) → IsReach [] before upto 0 before
reach_none before upto = record { within = omega arith; most = omega arith; front = refl; rest = refl }

-- ---- a loop over the steps

-- what holds of the steps from a place on holds of all of them
abbrev pub On : List StepAt → ℕ → ℕ → ℕ → ℕ → Type 0
On steps at start before upto =
    (len after : ℕ) → IsReach (map step_as (drop at steps)) before upto len after → IsReach (map step_as steps) start upto (at + len) after

pub on_first : (steps : List StepAt) (start upto : ℕ) → On steps 0 start start upto
on_first steps start upto len after is = subst (λ (n : ℕ). IsReach (map step_as steps) start upto n after) (let same : len ≡ 0 + len = omega arith in same) is

first_left : (steps : List StepAt) (at : ℕ) (step : StepAt) → at < length steps → step ≡ get_or steps at step → drop at steps ≡ step ∷ drop (at + 1) steps
first_left steps at step within is = drop_more steps at step within ∙ ap (λ (one : StepAt). one ∷ drop (at + 1) steps) (sym is)

pub on_next : (steps : List StepAt) (at : ℕ) (step : StepAt) (start before upto next : ℕ) → at < length steps → step ≡ get_or steps at step
    → next ≡ before + cond (acquires (step_as step)) 1 0 → next ≤ upto → On steps at start before upto → On steps (at + 1) start next upto
on_next steps at step start before upto next within is next_is below on len after reaches =
    let others = map step_as (drop (at + 1) steps) in
    let counted = subst (λ (n : ℕ). IsReach others n upto len after) next_is reaches in
    let bound : first_count before (step_as step) ≤ upto = subst (λ (n : ℕ). n ≤ upto) next_is below in
    let more = reach_more (step_as step) others before upto len after bound counted in
    let here = subst (λ (left : List StepAt). IsReach (map step_as left) before upto (len + 1) after) (sym (first_left steps at step within is)) more in
    let place : at + (len + 1) ≡ (at + 1) + len = omega arith in
    subst (λ (n : ℕ). IsReach (map step_as steps) start upto n after) place (on (len + 1) after here)

pub on_stops : (steps : List StepAt) (at : ℕ) (step : StepAt) (start before upto next : ℕ) → at < length steps → step ≡ get_or steps at step
    → next ≡ before + cond (acquires (step_as step)) 1 0 → upto < next → On steps at start before upto → IsReach (map step_as steps) start upto at before
on_stops steps at step start before upto next within is next_is above on =
    let others = map step_as (drop (at + 1) steps) in
    let bound : upto < first_count before (step_as step) = subst (λ (n : ℕ). upto < n) next_is above in
    let here = subst (λ (left : List StepAt). IsReach (map step_as left) before upto 0 before) (sym (first_left steps at step within is)) (reach_stops (step_as step) others before upto bound) in
    let place : at + 0 ≡ at = omega arith in
    subst (λ (n : ℕ). IsReach (map step_as steps) start upto n before) place (on 0 before here)

pub on_all : (steps : List StepAt) (at : ℕ) (start before upto : ℕ) → length steps ≤ at → at ≤ length steps → On steps at start before upto → IsReach (map step_as steps) start upto (length steps) before
on_all steps at start before upto past within on =
    let none : drop at steps ≡ [] = drop_all at steps past in
    let here = subst (λ (left : List StepAt). IsReach (map step_as left) before upto 0 before) (sym none) (reach_none before upto) in
    let place : at + 0 ≡ length steps = omega arith in
    subst (λ (n : ℕ). IsReach (map step_as steps) start upto n before) place (on 0 before here)

-- ---- a bound on what is counted

abbrev pub Below : ℕ → List Counted → Type 0
Below most [] = Unit {0}
Below most (one ∷ counted) = (one.acquired ≤ most) × Below most counted

pub counted_below : (most before : ℕ) (steps : List Step) → before + length steps ≤ most → Below most (counted_from before steps)
counted_below most before [] within = tt
counted_below most before (step ∷ steps) within = by (acquires step) (λ next upto. counted_below most next steps upto)
  where
    by : (b : Bool) → ((next : ℕ) → next + length steps ≤ most → Below most (counted_from next steps)) → (before + cond b 1 0 ≤ most) × Below most (counted_from (before + cond b 1 0) steps)
    by true rest = (omega (arith, within), rest (before + 1) (omega (arith, within)))
    by false rest = (omega (arith, within), rest (before + 0) (omega (arith, within)))

test_same : (most a b n : ℕ) → min a most ≡ min b most → n ≤ most → nat_le n a ≡ nat_le n b
test_same most a b n same within = by (nat_le n a) refl
  where
    by : (t : Bool) → nat_le n a ≡ t → nat_le n a ≡ nat_le n b
    by true is = let low = leb-true n a is in is ∙ sym (le-leb n b (omega (arith, low, same, within)))
    by false is = let high = leb-false n a is in is ∙ sym (lt-leb n b (omega (arith, high, same, within)))

front_from_same : (most a b : ℕ) → min a most ≡ min b most → (t : Bool) (x : Counted) (xs : List Counted) → Below most xs → front_from (is_acquired_by a) t x xs ≡ front_from (is_acquired_by b) t x xs
front_from_same most a b same false x xs below = refl
front_from_same most a b same true x [] below = refl
front_from_same most a b same true x (y ∷ xs) below =
    ap (λ (rest : List Counted). x ∷ rest)
    (front_from_same most a b same (nat_le y.acquired a) y xs below.1 ∙ ap (λ t. front_from (is_acquired_by b) t y xs) (test_same most a b y.acquired same below.0))

front_same : (most a b : ℕ) → min a most ≡ min b most → (xs : List Counted) → Below most xs → front_of (is_acquired_by a) xs ≡ front_of (is_acquired_by b) xs
front_same most a b same [] below = refl
front_same most a b same (x ∷ xs) below =
    front_from_same most a b same (nat_le x.acquired a) x xs below.1 ∙ ap (λ t. front_from (is_acquired_by b) t x xs) (test_same most a b x.acquired same below.0)

rest_from_same : (most a b : ℕ) → min a most ≡ min b most → (t : Bool) (x : Counted) (xs : List Counted) → Below most xs → rest_from (is_acquired_by a) t x xs ≡ rest_from (is_acquired_by b) t x xs
rest_from_same most a b same false x xs below = refl
rest_from_same most a b same true x [] below = refl
rest_from_same most a b same true x (y ∷ xs) below =
    rest_from_same most a b same (nat_le y.acquired a) y xs below.1 ∙ ap (λ t. rest_from (is_acquired_by b) t y xs) (test_same most a b y.acquired same below.0)

pub rest_same : (most a b : ℕ) → min a most ≡ min b most → (xs : List Counted) → Below most xs → rest_of (is_acquired_by a) xs ≡ rest_of (is_acquired_by b) xs
rest_same most a b same [] below = refl
rest_same most a b same (x ∷ xs) below =
    rest_from_same most a b same (nat_le x.acquired a) x xs below.1 ∙ ap (λ t. rest_from (is_acquired_by b) t x xs) (test_same most a b x.acquired same below.0)

rest_from_below : (most a : ℕ) (t : Bool) (x : Counted) (xs : List Counted) → x.acquired ≤ most → Below most xs → Below most (rest_from (is_acquired_by a) t x xs)
rest_from_below most a false x xs first below = (first, below)
rest_from_below most a true x [] first below = tt
rest_from_below most a true x (y ∷ xs) first below = rest_from_below most a (nat_le y.acquired a) y xs below.0 below.1

rest_below : (most a : ℕ) (xs : List Counted) → Below most xs → Below most (rest_of (is_acquired_by a) xs)
rest_below most a [] below = tt
rest_below most a (x ∷ xs) below = rest_from_below most a (nat_le x.acquired a) x xs below.0 below.1

parts_same : (most : ℕ) (submissions : List Submission) (a b : ℕ) (xs : List Counted) → min a most ≡ min b most → Below most xs → parts_from a submissions xs ≡ parts_from b submissions xs
parts_same most [] a b xs same below = refl
parts_same most (one ∷ submissions) a b xs same below =
    let n = length one.copy.sessions in
    let next : min (a + n) most ≡ min (b + n) most = omega (arith, same) in
    (λ i. record { submission = one; steps = map step_in (front_same most (a + n) (b + n) next xs below i) } ∷ parts_from (a + n) submissions (rest_same most (a + n) (b + n) next xs below i))
    ∙ ap (λ (parts : List Part). record { submission = one; steps = map step_in (front_of (is_acquired_by (b + n)) xs) } ∷ parts)
    (parts_same most submissions (a + n) (b + n) (rest_of (is_acquired_by (b + n)) xs) next (rest_below most (b + n) xs below))

-- the first part, counted no further than there are steps
pub part_next : (most before acquired upto len after : ℕ) (one : Submission) (submissions : List Submission) (steps : List Step)
    → upto ≡ min (before + length one.copy.sessions) most → acquired + length steps ≤ most → IsReach steps acquired upto len after
    → parts_from before (one ∷ submissions) (counted_from acquired steps)
    ≡ record { submission = one; steps = take len steps } ∷ parts_from upto submissions (counted_from after (drop len steps))
part_next most before acquired upto len after one submissions steps capped within is =
    let real = before + length one.copy.sessions in
    let same : min real most ≡ min upto most = omega (arith, capped) in
    let below = counted_below most acquired steps within in
    let xs = counted_from acquired steps in
    (λ i. record { submission = one; steps = map step_in (front_same most real upto same xs below i) } ∷ parts_from real submissions (rest_same most real upto same xs below i))
    ∙ (ap (λ (parts : List Part). record { submission = one; steps = map step_in (front_of (is_acquired_by upto) xs) } ∷ parts) (parts_same most submissions real upto (rest_of (is_acquired_by upto) xs) same (rest_below most upto xs below))
    ∙ (λ i. record { submission = one; steps = is.front i } ∷ parts_from upto submissions (is.rest i)))

pub one_most : (step : StepAt) (n : ℕ) → n ≡ cond (acquires (step_as step)) 1 0 → n ≤ 1
one_most step n is = by (acquires (step_as step)) is
  where
    by : (b : Bool) → n ≡ cond b 1 0 → n ≤ 1
    by true same = omega (arith, same)
    by false same = omega (arith, same)
