-- At the end of a run each transaction stands in the journal at most once, and each outcome that
-- was told is the stored one.
use Rattle.std.specs.Prelude.{IsTrue}
use Rattle.outage_schedule.specs.declared.document.Document.{Document}
use Rattle.outage_schedule.specs.declared.report.Report.{Report}
use Rattle.run_clauses.specs.meaning.Once.{once}
use Rattle.server_model.specs.Runs.{Server}
use Rattle.server_model.specs.Seen.{Seen}
use Rattle.world_model.specs.records.Ready.{all_requests_right}
use Rattle.world_model.specs.Reported.{IsReported}
use Rattle.world_model.specs.Traced.{Traced}
use Rattle.std.specs.Prelude.{List}
use Rattle.outage_schedule.specs.declared.item.Served.{Served}
use Rattle.outage_schedule.specs.declared.note.Note.{Note}
use Rattle.invariant_laws.specs.Once.{tell_tried}
use Rattle.world_model.specs.Reached.{IsRun}
use Rattle.run_clauses.specs.meaning.Stored.{kept_by, outcomes_stored}

-- Each transaction of the report of a whole run stands in its journal at most once.
abbrev pub ReportsAreOnce : Type 0
ReportsAreOnce =
    (document : Document) (report : Report) (seen : Seen) (t : Traced) (server : Server)
    → IsTrue (all_requests_right document) → IsReported document report seen t server
    → IsTrue (once document report)

-- The lists of `tried` that a run ends with are those of the rule of run_clauses, by the sendings
-- that the steps of each request tell.
abbrev pub RunsTellTried : Type 0
RunsTellTried = (document : Document) (notes : List Note) (items : List Served) (seen : Seen)
    (t : Traced) → IsTrue (all_requests_right document) → IsRun document notes items seen t
    → IsTrue (tell_tried t)

-- Each outcome that a client was told is the stored one, where the requests of the document are
-- right.
abbrev pub OutcomesAreStored : Type 0
OutcomesAreStored =
    (document : Document) (report : Report) (seen : Seen) (t : Traced) (server : Server)
    → IsTrue (all_requests_right document) → IsReported document report seen t server
    → IsTrue (outcomes_stored (kept_by document report) report)
