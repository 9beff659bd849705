-- What was served in a whole run, as it is judged.
use Rattle.std.specs.Prelude.{IsTrue}
use Rattle.outage_schedule.specs.declared.document.Document.{Document}
use Rattle.outage_schedule.specs.declared.report.Report.{Report}
use Rattle.run_clauses.specs.meaning.ServiceBase.{service_base}
use Rattle.server_model.specs.Runs.{Server}
use Rattle.server_model.specs.meaning.SetAside.{SetAside}
use Rattle.server_model.specs.SetAside.{ends_of}
use Rattle.server_model.specs.Seen.{Seen}
use Rattle.world_model.specs.meaning.Judged.{drawn_in, is_legal, is_fresh_new}
use Rattle.world_model.specs.Traced.{Traced}
use Rattle.world_model.specs.Reported.{IsReported}

-- What was served is legal.
abbrev pub RunsAreLegal : Type 0
RunsAreLegal = (document : Document) (report : Report) (seen : Seen) (t : Traced) (server : Server)
    → IsReported document report seen t server → IsTrue (is_legal document report)

-- No value was drawn anew twice.
abbrev pub RunsAreFreshNew : Type 0
RunsAreFreshNew = (document : Document) (report : Report) (seen : Seen) (t : Traced)
    (server : Server) → IsReported document report seen t server
    → IsTrue (is_fresh_new document report)

-- What was drawn anew lies in what the source has set aside, and nothing that was set aside before
-- event 1 is given back.
abbrev pub RunsAreSetAside : Type 0
RunsAreSetAside =
    (document : Document) (report : Report) (seen : Seen) (t : Traced) (server : Server)
    → IsReported document report seen t server
    → SetAside (service_base document).sequences (ends_of server.core.opening)
    (drawn_in document report)
