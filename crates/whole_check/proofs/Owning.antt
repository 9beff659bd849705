-- The turns of a client, in the order of their acquisitions.
use Rattle.std.proofs.Common.{◌≡◌, refl, ap, ◌∙◌, ℕ, suc, ◌-◌, ◌<◌, ◌≤◌, Bool, true, false, length, get_or, take, drop, List, [], ◌∷◌, map, None, option_map, arith}
use Rattle.std.specs.Prelude.{◌&&◌, nat_le, slice_get}
use Rattle.std.specs.List.{filter, last_or}
use Rattle.std.specs.List.Sorted.{IsPartitionPoint}
use Rattle.std.proofs.lemmas.Bool.{le-leb, lt-leb, and_left, and_right, and_from}
use Rattle.std.proofs.lemmas.List.{drop_all, length-take}
use Rattle.shown_clauses.specs.meaning.Turns.{Owned, owned_between}
use Rattle.entry_events.proofs.Offered.{IsRun, run_is}
use Rattle.report_story.specs.declared.steps.Step.{Step as StepAt}
use Rattle.report_story.specs.Views.{step_as}
use Rattle.whole_check.specs.declared.owned.OwnedAt.{OwnedAt}
use Rattle.whole_check.specs.Views.{owned_as}

-- ---- turns between two events

filter_mapped : (test : Owned → Bool) (xs : List OwnedAt) → filter test (map owned_as xs) ≡ map owned_as (filter (λ x. test (owned_as x)) xs)
filter_mapped test [] = refl
filter_mapped test (x ∷ xs) = by (test (owned_as x)) refl (filter_mapped test xs)
  where
    by : (b : Bool) → test (owned_as x) ≡ b → filter test (map owned_as xs) ≡ map owned_as (filter (λ (y : OwnedAt). test (owned_as y)) xs)
        → filter test (map owned_as (x ∷ xs)) ≡ map owned_as (filter (λ (y : OwnedAt). test (owned_as y)) (x ∷ xs))
    by true is rest = rw is (ap (λ (left : List Owned). owned_as x ∷ left) rest)
    by false is rest = rw is rest

abbrev is_between : ℕ → ℕ → OwnedAt → Bool
is_between first last one = nat_le first one.event && nat_le one.event last

-- Where so many come before the first event, and so many up to the last, those between them are a
-- run.
run_between : (first last : ℕ) (xs : List OwnedAt) (start end : ℕ)
    → IsPartitionPoint (λ (one : OwnedAt). one.event < first) (λ (one : OwnedAt). first ≤ one.event) xs start
    → IsPartitionPoint (λ (one : OwnedAt). one.event ≤ last) (λ (one : OwnedAt). last < one.event) xs end
    → IsRun (is_between first last) xs start end
run_between first last xs start end low high = record {
  before = λ k d in_range below. and_left _ _ (lt-leb first (get_or xs k d).event (low.0 k d (omega arith) below));
  within = λ k d in_range above below. and_from _ _ (le-leb first (get_or xs k d).event (low.1 k d above in_range)) (le-leb (get_or xs k d).event last (high.0 k d (omega arith) below));
  behind = λ k d in_range above. and_right _ _ (lt-leb (get_or xs k d).event last (high.1 k d above in_range));
}

pub between_is_run : (first last : ℕ) (xs : List OwnedAt) (start end : ℕ)
    → IsPartitionPoint (λ (one : OwnedAt). one.event < first) (λ (one : OwnedAt). first ≤ one.event) xs start
    → IsPartitionPoint (λ (one : OwnedAt). one.event ≤ last) (λ (one : OwnedAt). last < one.event) xs end
    → owned_between first last (map owned_as xs) ≡ map owned_as (drop start (take end xs))
between_is_run first last xs start end low high =
    filter_mapped (λ one. nat_le first one.event && nat_le one.event last) xs
    ∙ ap (map owned_as) (run_is (is_between first last) xs start end (run_between first last xs start end low high))

pub between_nothing : (first last : ℕ) (xs : List OwnedAt) (start end : ℕ)
    → IsPartitionPoint (λ (one : OwnedAt). one.event < first) (λ (one : OwnedAt). first ≤ one.event) xs start
    → IsPartitionPoint (λ (one : OwnedAt). one.event ≤ last) (λ (one : OwnedAt). last < one.event) xs end
    → end ≤ start → owned_between first last (map owned_as xs) ≡ []
between_nothing first last xs start end low high over =
    let short = length-take end xs in
    between_is_run first last xs start end low high ∙ ap (map owned_as) (drop_all start (take end xs) (omega (arith, short, over)))

-- ---- the last step

last_here : (steps : List StepAt) (first : StepAt) → option_map step_as (slice_get (first ∷ steps) (length steps)) ≡ last_or None (map step_as (first ∷ steps))
last_here [] first = refl
last_here (step ∷ steps) first = last_here steps step

pub last_is : (steps : List StepAt) → option_map step_as (slice_get steps (length steps - 1)) ≡ last_or None (map step_as steps)
last_is [] = refl
last_is (step ∷ steps) =
    let n : suc (length steps) - 1 ≡ length steps = omega arith in
    ap (λ (k : ℕ). option_map step_as (slice_get (step ∷ steps) k)) n ∙ last_here steps step
