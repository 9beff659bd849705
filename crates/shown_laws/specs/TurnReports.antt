-- What the report of a whole run says of the turns of its sessions: whose they are, and that each
-- is right for its request.
use Rattle.std.specs.Prelude.{◌+◌, ◌&&◌, ℕ, Bool, true, List, [], ◌∷◌, length}
use Rattle.std.specs.List.{list_all}
use Rattle.outage_schedule.specs.declared.document.Document.{Document}
use Rattle.outage_schedule.specs.declared.report.Report.{Report}
use Rattle.shown_clauses.specs.meaning.Links.{Turn}
use Rattle.shown_clauses.specs.meaning.Parts.{parts_of, left_of}
use Rattle.shown_clauses.specs.meaning.Steps.{Step, steps, steps_of, turns}
use Rattle.shown_clauses.specs.meaning.Submissions.{Submission, submissions_by_client}
use Rattle.shown_clauses.specs.meaning.Turns.{Owned, turns_of, turns_right, has_request, has_client}
use Rattle.shown_laws.specs.ReportsTold.{HoldsOfReports}

-- Each session in which a request began was acquired by one of the clients.
abbrev pub turns_have_clients : Document → Report → Bool
turns_have_clients document report = list_all (has_client
    (length (submissions_by_client document report))) (turns report)

abbrev pub ReportsTurnsHaveClients : Type 0
ReportsTurnsHaveClients = HoldsOfReports turns_have_clients

-- of the turns, the submissions and the steps of each client, from this one on
abbrev pub are_turns : (List Owned → List Submission → List Step → Bool) → ℕ → List Turn → List Step
    → List (List Submission) → Bool
are_turns test client turns all [] = true
are_turns test client turns all (submissions ∷ more) =
    test (turns_of client turns) submissions (steps_of client all)
    && are_turns test (client + 1) turns all more

abbrev pub of_turns : (List Owned → List Submission → List Step → Bool) → Document → Report → Bool
of_turns test document report = are_turns test 1 (turns report) (steps report)
    (submissions_by_client document report)

-- The turns of each part are right for its submission.
abbrev pub parts_turn_right : List Owned → List Submission → List Step → Bool
parts_turn_right its submissions mine = list_all (turns_right its) (parts_of submissions mine)

abbrev pub ReportsTurnsAreRight : Type 0
ReportsTurnsAreRight = HoldsOfReports (of_turns parts_turn_right)

-- No turn is behind the first step that is of no submission.
abbrev pub turns_have_requests : List Owned → List Submission → List Step → Bool
turns_have_requests its submissions mine = list_all (has_request (left_of submissions mine)) its

abbrev pub ReportsTurnsHaveRequests : Type 0
ReportsTurnsHaveRequests = HoldsOfReports (of_turns turns_have_requests)
