-- In every run of a calm document each request is shown all its answers, or fails with PoolWait.
use Rattle.std.specs.Prelude.{IsTrue}
use Rattle.outage_schedule.specs.declared.document.Document.{Document}
use Rattle.outage_schedule.specs.declared.report.Report.{Report}
use Rattle.server_model.specs.Runs.{Server}
use Rattle.server_model.specs.Seen.{Seen}
use Rattle.world_model.specs.records.Ready.{all_requests_right}
use Rattle.world_model.specs.Reported.{IsReported}
use Rattle.world_model.specs.Traced.{Traced}
use Rattle.calm_laws.specs.meaning.Calm.{is_calm, all_answered_or_waited}

abbrev pub CalmRunsAnswer : Type 0
CalmRunsAnswer =
    (document : Document) (report : Report) (seen : Seen) (t : Traced) (server : Server)
    → IsTrue (all_requests_right document) → IsReported document report seen t server
    → IsTrue (is_calm document) → IsTrue (all_answered_or_waited document report)
