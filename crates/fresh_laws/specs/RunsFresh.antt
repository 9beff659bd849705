-- The report of a whole run has `Fresh`.
use Rattle.std.specs.Prelude.{IsTrue}
use Rattle.outage_schedule.specs.declared.document.Document.{Document}
use Rattle.outage_schedule.specs.declared.report.Report.{Report}
use Rattle.run_clauses.specs.meaning.Fresh.{fresh}
use Rattle.server_model.specs.Runs.{Server}
use Rattle.server_model.specs.Seen.{Seen}
use Rattle.world_model.specs.records.Ready.{all_requests_right}
use Rattle.world_model.specs.Traced.{Traced}
use Rattle.world_model.specs.Reported.{IsReported}

-- No value stands twice among what the entries drew, where the requests of the document are right.
abbrev pub RunsAreFresh : Type 0
RunsAreFresh =
    (document : Document) (report : Report) (seen : Seen) (t : Traced) (server : Server)
    → IsTrue (all_requests_right document) → IsReported document report seen t server
    → IsTrue (fresh report)
