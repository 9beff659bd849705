-- The reports of a client, one after the other, each put to its request of the script.
use Rattle.std.specs.Prelude.{ℕ, ◌-◌, ◌&&◌, Bool, true, false, not, List, [], ◌∷◌, ◌++◌, fold, Option, Some, None}
use Rattle.outage_schedule.specs.declared.document.Request.{Request}
use Rattle.outage_schedule.specs.declared.request.RequestReport.{RequestReport}
use Rattle.run_clauses.specs.meaning.Copies.{is_repeated}
use Rattle.shown_clauses.specs.meaning.Fronts.{is_empty}
use Rattle.shown_clauses.specs.meaning.Submissions.{Submission}

-- The last copy that was put, of its request, and how many further ones are allowed behind it.
pub record Last : Type 0 where
  pub allowed : ℕ
  pub request : Request
  pub copy : RequestReport

-- How far the reports were put: the requests that have none yet, the last copy, whether one was of
-- no request, and the submissions.
pub record Submitting : Type 0 where
  pub script : List Request
  pub last : Option Last
  pub over : Bool
  pub found : List Submission

abbrev pub begun_for : List Request → Submitting
begun_for script = record { script = script; last = None; over = false; found = [] }

-- the last copy, where a further one follows it
abbrev pub further_if : Bool → Last → Option Last
further_if true last = Some last
further_if false last = None

abbrev pub further_of : Option Last → Option Last
further_of None = None
further_of (Some last) = further_if (is_repeated last.allowed last.copy) last

-- a copy of a request, behind which so many further ones are allowed
abbrev pub with_copy_of : Submitting → List Request → Request → ℕ → RequestReport → Submitting
with_copy_of put script request allowed copy =
    record {
      script = script;
      last = Some (record { allowed = allowed; request = request; copy = copy });
      over = put.over;
      found = put.found ++ record { request = request; copy = copy } ∷ [];
    }

abbrev pub with_first_of : Submitting → RequestReport → List Request → Submitting
with_first_of put copy [] = record put { last = None; over = true }
with_first_of put copy (request ∷ script) = with_copy_of put script request request.again copy

abbrev pub with_report_of : Submitting → RequestReport → Option Last → Submitting
with_report_of put copy (Some last) = with_copy_of put put.script last.request (last.allowed - 1)
    copy
with_report_of put copy None = with_first_of put copy put.script

abbrev pub with_report : Submitting → RequestReport → Submitting
with_report put copy = with_report_of put copy (further_of put.last)

abbrev pub submitted : List Request → List RequestReport → Submitting
submitted script reports = fold with_report (begun_for script) reports

-- all requests have their copies, and no report is left
abbrev pub is_none_due : Option Last → Bool
is_none_due None = true
is_none_due (Some last) = false

abbrev pub is_complete : Submitting → Bool
is_complete put = is_empty put.script && (is_none_due (further_of put.last) && not put.over)
