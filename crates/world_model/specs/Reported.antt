-- A report that has what a whole run did and left.
use Rattle.std.specs.Prelude.{◌≡◌, ◌++◌}
use Rattle.outage_schedule.specs.declared.document.Document.{Document}
use Rattle.outage_schedule.specs.declared.report.Report.{Report}
use Rattle.run_clauses.specs.meaning.Before.{journal_before}
use Rattle.run_clauses.specs.meaning.ServiceBase.{service_base}
use Rattle.server_model.specs.Runs.{Server, Runs}
use Rattle.server_model.specs.Seen.{Seen}
use Rattle.world_model.specs.meaning.Followed.{transcripts_of}
use Rattle.world_model.specs.Reached.{IsRun}
use Rattle.world_model.specs.Traced.{Traced}

-- The report has the notes and items of a whole run, what its clients were shown, what the plain
-- server beside it has gained, and the horizon that the store ends with.
pub record IsReported (document : Document) (report : Report) (seen : Seen) (t : Traced)
    (server : Server) : Type 0 where
  pub run : IsRun document report.notes report.served seen t
  pub clients : report.clients ≡ transcripts_of t.machine
  pub runs : Runs (service_base document) seen.history server
  pub entries : report.entries ≡ server.core.entries
  -- the store has gained them (a history alone does not tell them: a commit that was stopped has
  -- its entry or not)
  pub gained : seen.state.store.entries ≡ (journal_before document).entries ++ report.entries
  pub blocked : report.blocked ≡ server.core.blocked
  pub alerts : report.alerts ≡ server.core.alerts
  pub forgotten : report.forgotten ≡ seen.state.store.horizon
