-- The first step that is of none of the submissions.
use Rattle.std.proofs.Common.{◌≡◌, refl, sym, ap, ◌∙◌, ℕ, zero, suc, ◌+◌, ◌<◌, ◌≤◌, min, length, get_or, drop, List, [], ◌∷◌, map, option_map, arith}
use Rattle.std.specs.Prelude.{slice_get}
use Rattle.std.proofs.lemmas.List.{drop_more, drop_all, length-map}
use Rattle.shown_clauses.specs.meaning.Fronts.{rest_of, first_item}
use Rattle.shown_clauses.specs.meaning.Parts.{Counted, counted_from, is_acquired_by, left_from, left_of}
use Rattle.shown_clauses.specs.meaning.Steps.{Step}
use Rattle.shown_clauses.specs.meaning.Submissions.{Submission}
use Rattle.report_story.specs.declared.steps.Step.{Step as StepAt}
use Rattle.report_parts.specs.declared.submitting.Submission.{Submission as SubmissionAt}
use Rattle.report_parts.specs.Cutting.{step_in, IsReach, sessions_in}
use Rattle.report_parts.specs.SubmissionViews.{submission_as}
use Rattle.report_story.specs.Views.{step_as}
use Rattle.report_parts.proofs.Reaching.{counted_below, rest_same}

-- one submission more
pub sessions_more : (subs : List SubmissionAt) (i upto next most : ℕ) (one : SubmissionAt) → i < length subs → one ≡ get_or subs i one
    → next ≡ min (upto + length one.copy.now.sessions) most
    → min (next + sessions_in (map submission_as (drop (i + 1) subs))) most ≡ min (upto + sessions_in (map submission_as (drop i subs))) most
sessions_more subs i upto next most one within is next_is =
    let left = ap (λ (some : List SubmissionAt). sessions_in (map submission_as some)) (drop_more subs i one within ∙ ap (λ (x : SubmissionAt). x ∷ drop (i + 1) subs) (sym is)) in
    omega (arith, left, next_is)

pub sessions_all : (subs : List SubmissionAt) (i upto most : ℕ) → length subs ≤ i → upto ≤ most → min (upto + sessions_in (map submission_as (drop i subs))) most ≡ upto
sessions_all subs i upto most past below =
    let none = ap (λ (some : List SubmissionAt). sessions_in (map submission_as some)) (drop_all i subs past) in
    omega (arith, none, below)

left_is : (subs : List Submission) (before : ℕ) (xs : List Counted) → left_from before subs xs ≡ option_map step_in (first_item (rest_of (is_acquired_by (before + sessions_in subs)) xs))
left_is [] before xs = let same : before ≡ before + 0 = omega arith in ap (λ (n : ℕ). option_map step_in (first_item (rest_of (is_acquired_by n) xs))) same
left_is (one ∷ subs) before xs =
    let n = length one.copy.sessions in
    let same : (before + n) + sessions_in subs ≡ before + (n + sessions_in subs) = omega arith in
    left_is subs (before + n) xs ∙ ap (λ (k : ℕ). option_map step_in (first_item (rest_of (is_acquired_by k) xs))) same

first_counted : (before : ℕ) (steps : List Step) → option_map step_in (first_item (counted_from before steps)) ≡ first_item steps
first_counted before [] = refl
first_counted before (step ∷ steps) = refl

first_left : (mine : List StepAt) (len : ℕ) → first_item (drop len (map step_as mine)) ≡ option_map step_as (slice_get mine len)
first_left [] zero = refl
first_left [] (suc len) = refl
first_left (step ∷ mine) zero = refl
first_left (step ∷ mine) (suc len) = first_left mine len

pub left_here : (mine : List StepAt) (subs : List Submission) (upto len after : ℕ) → upto ≡ min (sessions_in subs) (length mine) → IsReach (map step_as mine) 0 upto len after
    → option_map step_as (slice_get mine len) ≡ left_of subs (map step_as mine)
left_here mine subs upto len after upto_is is =
    let steps = map step_as mine in
    let long = length-map mine step_as in
    let same : min (0 + sessions_in subs) (length mine) ≡ min upto (length mine) = omega (arith, upto_is) in
    let below = counted_below (length mine) 0 steps (omega (arith, long)) in
    sym (left_is subs 0 (counted_from 0 steps)
    ∙ (ap (λ (xs : List Counted). option_map step_in (first_item xs)) (rest_same (length mine) (0 + sessions_in subs) upto same (counted_from 0 steps) below ∙ is.rest)
    ∙ (first_counted after (drop len steps)
    ∙ first_left mine len)))
