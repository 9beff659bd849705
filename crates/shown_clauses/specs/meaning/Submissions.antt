-- The submissions of the clients: each report with its request of the script.
use Rattle.std.specs.Prelude.{List, map, flat_map}
use Rattle.outage_schedule.specs.declared.document.Request.{Request}
use Rattle.outage_schedule.specs.declared.document.Document.{Document}
use Rattle.outage_schedule.specs.declared.request.RequestReport.{RequestReport}
use Rattle.outage_schedule.specs.declared.report.Report.{Report}
use Rattle.run_clauses.specs.meaning.Copies.{Copies, copies_by_client}

-- a copy of a request, and what it was shown
pub record Submission : Type 0 where
  pub request : Request
  pub copy : RequestReport

abbrev pub submissions_of : Copies → List Submission
submissions_of copies = map (λ copy. record {
  request = copies.request;
  copy = copy;
}) copies.reports

-- for each client, in order
abbrev pub submissions_by_client : Document → Report → List (List Submission)
submissions_by_client document report = map (flat_map submissions_of)
    (copies_by_client document.clients report.clients)
