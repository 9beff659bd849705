-- Each request fails as the first line says that holds at a step of it, and no other fails.
use Rattle.std.specs.Prelude.{ℕ, ◌+◌, ◌==◌, ◌&&◌, Bool, true, false, nat_lt, nat_le, List, [], ◌∷◌, ◌++◌, reverse, fold, count_by, Option, Some, None}
use Rattle.std.specs.List.{last_or}
use Rattle.std.specs.Option.{option_map_or}
use Rattle.std.specs.Str.{bytes_eq}
use Rattle.svc_values.specs.meaning.Identifiers.{same_ltxid}
use Rattle.outage_schedule.specs.declared.document.ServiceOf.{ServiceOf}
use Rattle.outage_schedule.specs.declared.document.Document.{Document}
use Rattle.outage_schedule.specs.declared.failure.Failure.{Failure}
use Rattle.outage_schedule.specs.declared.failure.Failure.TheVariants as failure
use Rattle.outage_schedule.specs.declared.failure.Reason.{Reason}
use Rattle.outage_schedule.specs.declared.failure.Reason.TheVariants as reason
use Rattle.outage_schedule.specs.declared.request.Outcome.{Outcome}
use Rattle.outage_schedule.specs.declared.request.RequestReport.{RequestReport}
use Rattle.outage_schedule.specs.declared.report.Report.{Report}
use Rattle.shown_clauses.specs.meaning.Fronts.{first_item, is_empty}
use Rattle.shown_clauses.specs.meaning.Steps.{Step, steps, steps_of}
use Rattle.shown_clauses.specs.meaning.Showings.{same_outcome, is_showing}
use Rattle.shown_clauses.specs.meaning.Submissions.{Submission, submissions_by_client}
use Rattle.shown_clauses.specs.meaning.Facts.{Fact, Course, course_of, after_step, facts_at}
use Rattle.shown_clauses.specs.meaning.Causes.{Past, line_at, outcomes_of, says_uncommitted}

-- ---- when two failures are the same

abbrev pub same_reason : Reason → Reason → Bool
same_reason reason.Off reason.Off = true
same_reason reason.AfterCommit reason.AfterCommit = true
same_reason (reason.Restricted a) (reason.Restricted b) = a == b
same_reason (reason.Settings a) (reason.Settings b) = a == b
same_reason (reason.Asked a) (reason.Asked b) = a == b
same_reason (reason.Full a) (reason.Full b) = a == b
same_reason (reason.StateLost a) (reason.StateLost b) = a == b
same_reason _ _ = false

-- the same event, and one there is: events are numbered from 1
abbrev pub same_event : ℕ → ℕ → Bool
same_event a b = nat_lt 0 a && (a == b)

abbrev pub same_failure : Failure → Failure → Bool
same_failure (failure.Disabled a e) (failure.Disabled b f) = same_reason a b && same_event e f
same_failure (failure.Mismatch i a x) (failure.Mismatch j b y) =
    (i == j) && (bytes_eq a b && bytes_eq x y)
same_failure (failure.Incomplete x) (failure.Incomplete y) = same_ltxid x y
same_failure (failure.Retries n) (failure.Retries m) = n == m
same_failure (failure.ReplayTimeout a x) (failure.ReplayTimeout b y) = (a == b) && (x == y)
same_failure (failure.Replays n e) (failure.Replays m f) = (n == m) && same_event e f
same_failure (failure.PoolWait a x) (failure.PoolWait b y) = (a == b) && (x == y)
same_failure (failure.Unknown x) (failure.Unknown y) = same_ltxid x y
same_failure _ _ = false

abbrev pub same_failed : Option Failure → Option Failure → Bool
same_failed None None = true
same_failed (Some a) (Some b) = same_failure a b
same_failed _ _ = false

-- ---- the outcomes of the report

-- o is the last outcome of the request
abbrev pub is_last_outcome : Option Outcome → RequestReport → Bool
is_last_outcome (Some taken) copy = option_map_or (same_outcome taken) (last_or None copy.outcomes)
    false
is_last_outcome None copy = false

abbrev pub count_uncommitted : RequestReport → ℕ
count_uncommitted copy = count_by says_uncommitted copy.outcomes

-- What a line says of outcomes holds of those of the report. (Told the last outcome that the steps
-- took.)
abbrev pub fits_outcomes : ServiceOf → Option Outcome → RequestReport → Option Failure → Bool
fits_outcomes service taken copy (Some (failure.Incomplete x)) = is_last_outcome taken copy
fits_outcomes service taken copy (Some (failure.Disabled why event)) = is_last_outcome taken copy
fits_outcomes service taken copy (Some (failure.Replays limit event)) =
    is_last_outcome taken copy && (count_uncommitted copy == limit + 1)
fits_outcomes service taken copy (Some (failure.ReplayTimeout first ready)) =
    is_last_outcome taken copy && nat_le (count_uncommitted copy) service.replays
fits_outcomes service taken copy _ = true

-- ---- the steps of a client, one after the other

-- How far a client has come: the submissions that are not over, and of the first of these its steps
-- and what happened in them, the newest first, how far it has come, and the tick of its first step.
-- `right` is false once a submission failed otherwise than it had to.
pub record Judged : Type 0 where
  pub to_come : List Submission
  pub steps : List Step
  pub facts : List Fact
  pub course : Option Course
  pub begun : ℕ
  pub right : Bool

abbrev pub judged_from : Bool → List Submission → Judged
judged_from right submissions = record {
  to_come = submissions;
  steps = [];
  facts = [];
  course = None;
  begun = 0;
  right = right;
}

-- A submission ends at a step with the Failed of the line that holds there, or without one where it
-- showed the last call.
pub data Ending : Type 0 where
  Goes : Ending
  Ends : (failed : Option Failure) → Ending

abbrev pub all_shown : Step → Course → Bool
all_shown step after = option_map_or is_showing step.taken false && is_empty after.unshown

abbrev pub ending_if : Bool → Option Failure → Ending
ending_if shown (Some failed) = Ends (Some failed)
ending_if true None = Ends None
ending_if false None = Goes

abbrev pub ending_at : ServiceOf → Submission → Past → Step → Ending
ending_at service submission past step =
    ending_if (all_shown step (after_step past.before step))
    (line_at service submission past step step.did)

-- the submission failed with this, and with nothing else
abbrev pub is_right : ServiceOf → Submission → List Step → Option Failure → Bool
is_right service submission steps failed =
    same_failed submission.copy.failed failed
    && fits_outcomes service (first_item (outcomes_of steps)) submission.copy failed

abbrev pub after_ending : ServiceOf → Judged → Submission → List Submission → Past → Step → Ending
    → Judged
after_ending service judged submission more past step Goes =
    record judged {
      steps = past.steps;
      facts = reverse (facts_at past.before step) ++ past.facts;
      course = Some (after_step past.before step);
      begun = past.begun;
    }
after_ending service judged submission more past step (Ends failed) =
    judged_from (judged.right && is_right service submission past.steps failed) more

-- the submission in course up to this step, which is its first where it has none before
abbrev pub past_by : Judged → Submission → Step → Option Course → Past
past_by judged submission step None = record {
  steps = step ∷ [];
  facts = [];
  before = course_of submission;
  begun = step.tick;
}
past_by judged submission step (Some course) = record {
  steps = step ∷ judged.steps;
  facts = judged.facts;
  before = course;
  begun = judged.begun;
}

abbrev pub after_past : ServiceOf → Judged → Submission → List Submission → Step → Past → Judged
after_past service judged submission more step past =
    after_ending service judged submission more past step (ending_at service submission past step)

-- A step after the last submission is nobody's.
abbrev pub after_one : ServiceOf → Step → Judged → List Submission → Judged
after_one service step judged [] = judged
after_one service step judged (submission ∷ more) =
    after_past service judged submission more step (past_by judged submission step judged.course)

abbrev pub judge_step : ServiceOf → Judged → Step → Judged
judge_step service judged step = after_one service step judged judged.to_come

-- All submissions came to their end, and failed as they had to.
abbrev pub is_judged_right : Judged → Bool
is_judged_right judged = judged.right && is_empty judged.to_come

abbrev pub is_client_caused : ServiceOf → List Submission → List Step → Bool
is_client_caused service submissions mine =
    is_judged_right (fold (judge_step service) (judged_from true submissions) mine)

abbrev pub are_clients_caused : ServiceOf → ℕ → List Step → List (List Submission) → Bool
are_clients_caused service client all [] = true
are_clients_caused service client all (submissions ∷ more) =
    is_client_caused service submissions (steps_of client all)
    && are_clients_caused service (client + 1) all more

-- `Caused`
abbrev pub caused : Document → Report → Bool
caused document report = are_clients_caused document.service 1 (steps report)
    (submissions_by_client document report)
