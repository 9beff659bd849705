-- The parts of a client, put last one after the other.
use Rattle.std.proofs.Common.{◌≡◌, sym, ap, ◌∙◌, append_assoc, ℕ, ◌+◌, ◌<◌, ◌≤◌, min, length, get_or, take, drop, List, [], ◌∷◌, ◌++◌, map, arith, length-drop}
use Rattle.std.proofs.lemmas.List.{drop_more, drop-map, take-map, drop-drop, length-map}
use Rattle.shown_clauses.specs.meaning.Parts.{counted_from, Part, parts_from}
use Rattle.shown_clauses.specs.meaning.Steps.{Step}
use Rattle.shown_clauses.specs.meaning.Submissions.{Submission}
use Rattle.report_story.specs.declared.steps.Step.{Step as StepAt}
use Rattle.report_parts.specs.declared.submitting.Submission.{Submission as SubmissionAt}
use Rattle.report_parts.specs.Cutting.{IsReach}
use Rattle.report_parts.specs.SubmissionViews.{submission_as}
use Rattle.report_story.specs.Views.{step_as}
use Rattle.report_parts.proofs.Reaching.{part_next}

-- the steps behind a place, and how many
pub left_len : (mine : List StepAt) (from : ℕ) → from ≤ length mine → from + length (map step_as (drop from mine)) ≡ length mine
left_len mine from within = omega (arith, within, length-map (drop from mine) step_as, length-drop from mine)

pub put_next : (subs : List SubmissionAt) (mine : List StepAt) (i from acquired before upto len after : ℕ) (one : SubmissionAt) (made more total : List Part) (part : Part)
    → i < length subs → one ≡ get_or subs i one
    → upto ≡ min (before + length one.copy.now.sessions) (length mine) → acquired ≤ from → from ≤ length mine
    → IsReach (map step_as (drop from mine)) acquired upto len after
    → part ≡ record { submission = submission_as one; steps = map step_as (take len (drop from mine)) } → more ≡ made ++ part ∷ []
    → made ++ parts_from before (map submission_as (drop i subs)) (counted_from acquired (map step_as (drop from mine))) ≡ total
    → more ++ parts_from upto (map submission_as (drop (i + 1) subs)) (counted_from after (map step_as (drop (from + len) mine))) ≡ total
put_next subs mine i from acquired before upto len after one made more total part within is capped few most reach part_is more_is before_is =
    let others : List Submission = map submission_as (drop (i + 1) subs) in
    let steps : List Step = map step_as (drop from mine) in
    let count = left_len mine from most in
    let room : acquired + length steps ≤ length mine = omega (arith, few, count) in
    let first : drop i subs ≡ one ∷ drop (i + 1) subs = drop_more subs i one within ∙ ap (λ (x : SubmissionAt). x ∷ drop (i + 1) subs) (sym is) in
    let next = part_next (length mine) before acquired upto len after (submission_as one) others steps capped room reach in
    let left : drop len steps ≡ map step_as (drop (from + len) mine) = drop-map step_as len (drop from mine) ∙ ap (map step_as) (drop-drop len from mine) in
    let taken : part ≡ record { submission = submission_as one; steps = take len steps } =
    part_is ∙ (λ i. record { submission = submission_as one; steps = sym (take-map step_as len (drop from mine)) i }) in
    let here : parts_from before (map submission_as (drop i subs)) (counted_from acquired steps) ≡ part ∷ parts_from upto others (counted_from after (map step_as (drop (from + len) mine))) =
    ap (λ (some : List SubmissionAt). parts_from before (map submission_as some) (counted_from acquired steps)) first
    ∙ (next ∙ (λ i. sym taken i ∷ parts_from upto others (counted_from after (left i)))) in
    ap (λ (parts : List Part). parts ++ parts_from upto others (counted_from after (map step_as (drop (from + len) mine)))) more_is
    ∙ (append_assoc made (part ∷ []) (parts_from upto others (counted_from after (map step_as (drop (from + len) mine))))
    ∙ (ap (λ (parts : List Part). made ++ parts) (sym here) ∙ before_is))
