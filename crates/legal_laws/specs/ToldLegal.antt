-- What the report of a whole run tells of its service is legal, read off the report alone.
use Rattle.std.specs.Prelude.{IsTrue}
use Rattle.outage_schedule.specs.declared.document.Document.{Document}
use Rattle.outage_schedule.specs.declared.report.Report.{Report}
use Rattle.server_model.specs.Runs.{Server}
use Rattle.server_model.specs.Seen.{Seen}
use Rattle.shown_clauses.specs.meaning.Legal.{legal_of}
use Rattle.shown_clauses.specs.Legal.{fresh_new_of}
use Rattle.world_model.specs.records.Ready.{all_requests_right}
use Rattle.world_model.specs.Reported.{IsReported}
use Rattle.world_model.specs.Traced.{Traced}

-- the clause `Legal`
abbrev pub RunsAreLegalTold : Type 0
RunsAreLegalTold = (document : Document) (report : Report) (seen : Seen) (t : Traced)
    (server : Server) → IsTrue (all_requests_right document)
    → IsReported document report seen t server → IsTrue (legal_of document report)

-- no value that was drawn anew was drawn twice
abbrev pub RunsAreFreshNewTold : Type 0
RunsAreFreshNewTold = (document : Document) (report : Report) (seen : Seen) (t : Traced)
    (server : Server) → IsTrue (all_requests_right document)
    → IsReported document report seen t server → IsTrue (fresh_new_of document report)
