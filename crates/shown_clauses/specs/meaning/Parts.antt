-- Which steps are a request's, by the sessions of its report.
use Rattle.std.specs.Prelude.{ℕ, ◌+◌, Bool, nat_le, cond, List, [], ◌∷◌, length, map, filter_map, Option, option_map, true, false, ◌||◌}
use Rattle.std.specs.Cmp.Lexicographic.{pointwise}
use Rattle.svc_values.specs.meaning.Identifiers.{same_session}
use Rattle.shown_clauses.specs.meaning.Fronts.{front_of, rest_of, first_item}
use Rattle.shown_clauses.specs.meaning.Steps.{Step}
use Rattle.shown_clauses.specs.meaning.Links.{is_hello}
use Rattle.outage_schedule.specs.declared.note.GoNote.{GoNote}
use Rattle.outage_schedule.specs.declared.note.GoNote.TheVariants as go
use Rattle.shown_clauses.specs.meaning.Submissions.{Submission}

abbrev pub is_lent : GoNote → Bool
is_lent (go.Lent connection) = true
is_lent _ = false

-- the step acquires a session
abbrev pub acquires : Step → Bool
acquires step = is_lent step.did || is_hello step.taken

-- a step, and how many sessions its client has acquired with it
pub record Counted : Type 0 where
  pub acquired : ℕ
  pub step : Step

abbrev pub counted_from : ℕ → List Step → List Counted
counted_from before [] = []
counted_from before (step ∷ steps) =
    let now : ℕ = before + cond (acquires step) 1 0 in
    record { acquired = now; step = step } ∷ counted_from now steps

-- A submission with its steps: from those that acquire its sessions up to the next that acquires
-- one.
pub record Part : Type 0 where
  pub submission : Submission
  pub steps : List Step

abbrev pub is_acquired_by : ℕ → Counted → Bool
is_acquired_by upto counted = nat_le counted.acquired upto

-- the steps of a client cut by the lengths of `sessions`, where so many are acquired before
abbrev pub parts_from : ℕ → List Submission → List Counted → List Part
parts_from before [] steps = []
parts_from before (submission ∷ submissions) steps =
    let upto : ℕ = before + length submission.copy.sessions in
    record {
      submission = submission;
      steps = map (λ counted. counted.step) (front_of (is_acquired_by upto) steps);
    }
    ∷ parts_from upto submissions (rest_of (is_acquired_by upto) steps)

abbrev pub parts_of : List Submission → List Step → List Part
parts_of submissions steps = parts_from 0 submissions (counted_from 0 steps)

-- the first step that is of no submission, since it acquires a session of none
abbrev pub left_from : ℕ → List Submission → List Counted → Option Step
left_from before [] steps = option_map (λ counted. counted.step)
    (first_item (rest_of (is_acquired_by before) steps))
left_from before (submission ∷ submissions) steps =
    left_from (before + length submission.copy.sessions) submissions steps

abbrev pub left_of : List Submission → List Step → Option Step
left_of submissions steps = left_from 0 submissions (counted_from 0 steps)

-- The sessions of the report are those that its steps acquired, in order.
abbrev pub has_its_sessions : Part → Bool
has_its_sessions part = pointwise same_session part.submission.copy.sessions
    (filter_map (λ step. step.session) part.steps)
