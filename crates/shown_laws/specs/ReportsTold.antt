-- What the report of a whole run says of the parts of its clients, and of the steps and the reports
-- themselves.
use Rattle.std.specs.Prelude.{◌+◌, ◌&&◌, ℕ, Bool, true, IsTrue, List, [], ◌∷◌}
use Rattle.std.specs.List.{list_all}
use Rattle.outage_schedule.specs.declared.document.Document.{Document}
use Rattle.outage_schedule.specs.declared.report.Report.{Report}
use Rattle.run_clauses.specs.meaning.Copies.{has_its_reports}
use Rattle.server_model.specs.Runs.{Server}
use Rattle.server_model.specs.Seen.{Seen}
use Rattle.shown_clauses.specs.meaning.Parts.{Part, parts_of, has_its_sessions}
use Rattle.shown_clauses.specs.meaning.Showings.{has_its_showings}
use Rattle.shown_clauses.specs.meaning.Steps.{Step, steps, steps_of}
use Rattle.shown_clauses.specs.meaning.Submissions.{Submission, submissions_by_client}
use Rattle.shown_clauses.specs.meaning.Whole.{are_taken}
use Rattle.shown_clauses.specs.Whole.{outcomes_taken}
use Rattle.world_model.specs.records.Ready.{all_requests_right}
use Rattle.world_model.specs.Reported.{IsReported}
use Rattle.world_model.specs.Traced.{Traced}

-- It holds of the report of every whole run.
abbrev pub HoldsOfReports : (Document → Report → Bool) → Type 0
HoldsOfReports test =
    (document : Document) (report : Report) (seen : Seen) (t : Traced) (server : Server)
    → IsTrue (all_requests_right document) → IsReported document report seen t server
    → IsTrue (test document report)

-- of each part of each client, from this one on
abbrev pub are_parts : (Part → Bool) → ℕ → List Step → List (List Submission) → Bool
are_parts test client all [] = true
are_parts test client all (submissions ∷ more) =
    list_all test (parts_of submissions (steps_of client all))
    && are_parts test (client + 1) all more

abbrev pub of_parts : (Part → Bool) → Document → Report → Bool
of_parts test document report = are_parts test 1 (steps report)
    (submissions_by_client document report)

-- The sessions of each report are those that its steps acquired, in order.
abbrev pub ReportsListSessions : Type 0
ReportsListSessions = HoldsOfReports (of_parts has_its_sessions)

-- The calls of each report are those that the replies which its steps took showed, in order and
-- with the same answers and draws.
abbrev pub ReportsListShowings : Type 0
ReportsListShowings = HoldsOfReports (of_parts has_its_showings)

-- The outcomes of each report are those that its steps took, in order.
abbrev pub ReportsListOutcomes : Type 0
ReportsListOutcomes = HoldsOfReports outcomes_taken

-- Each step that is noted to take a reply has one.
abbrev pub ReportsTakeReplies : Type 0
ReportsTakeReplies = HoldsOfReports (λ document report. are_taken (steps report))

-- The reports of each client are the copies of its requests, in the order of its script; each shows
-- all calls of its request, or failed and shows fewer.
abbrev pub ReportsAreOrdered : Type 0
ReportsAreOrdered = HoldsOfReports has_its_reports
