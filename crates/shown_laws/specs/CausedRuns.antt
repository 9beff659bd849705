-- The report of every whole run fails each request for its cause.
use Rattle.std.specs.Prelude.{◌≤◌, IsTrue}
use Rattle.outage_schedule.specs.declared.document.Document.{Document}
use Rattle.outage_schedule.specs.declared.report.Report.{Report}
use Rattle.server_model.specs.Runs.{Server}
use Rattle.server_model.specs.Seen.{Seen}
use Rattle.shown_clauses.specs.meaning.Caused.{caused}
use Rattle.world_model.specs.records.Ready.{all_requests_right}
use Rattle.world_model.specs.Reported.{IsReported}
use Rattle.world_model.specs.Traced.{Traced}

-- of a document that lets a request try at least once
abbrev pub RunsAreCaused : Type 0
RunsAreCaused =
    (document : Document) (report : Report) (seen : Seen) (t : Traced) (server : Server)
    → IsTrue (all_requests_right document) → 1 ≤ document.service.retries
    → IsReported document report seen t server → IsTrue (caused document report)
