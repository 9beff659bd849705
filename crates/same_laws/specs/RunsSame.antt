-- The report of a whole run has `Same`.
use Rattle.std.specs.Prelude.{IsTrue}
use Rattle.outage_schedule.specs.declared.document.Document.{Document}
use Rattle.outage_schedule.specs.declared.report.Report.{Report}
use Rattle.run_clauses.specs.meaning.NoClash.{no_clash}
use Rattle.run_clauses.specs.meaning.Same.{same}
use Rattle.server_model.specs.Runs.{Server}
use Rattle.server_model.specs.Seen.{Seen}
use Rattle.world_model.specs.records.Ready.{all_requests_right}
use Rattle.world_model.specs.Traced.{Traced}
use Rattle.world_model.specs.Reported.{IsReported}

-- Each transaction of a request stands in the journal with the calls, answers, granted draws and
-- settings that its client knows, where the requests of the document are right and no two answers
-- that clients compared have one digest by chance.
abbrev pub RunsAreSame : Type 0
RunsAreSame =
    (document : Document) (report : Report) (seen : Seen) (t : Traced) (server : Server)
    → IsTrue (all_requests_right document) → IsReported document report seen t server
    → IsTrue (no_clash document report) → IsTrue (same document report)
