-- The blocks of a run are those that its report has as answered.
use Rattle.std.proofs.Common.{sym, subst, List}
use Rattle.outage_schedule.specs.declared.document.Document.{Document}
use Rattle.outage_schedule.specs.declared.report.Report.{Report}
use Rattle.run_clauses.specs.meaning.Before.{journal_before}
use Rattle.run_clauses.specs.meaning.Blocks.{answered_in}
use Rattle.run_clauses.specs.meaning.Moments.{moments}
use Rattle.run_clauses.specs.meaning.ServiceBase.{service_base}
use Rattle.server_model.specs.Runs.{Server}
use Rattle.server_model.specs.Seen.{Seen}
use Rattle.svc_values.specs.declared.entry.Ltxid.{Ltxid}
use Rattle.world_model.specs.Reported.{IsReported}
use Rattle.run_laws.specs.StoredLaws.{BlocksAreAnswered, BlocksComeInOrder}
use Rattle.world_model.specs.Traced.{Traced}
use Rattle.run_laws.proofs.AnswersOf.{run_answers}
use Rattle.run_laws.proofs.BlockRuns.{HasBlocked, answered_of, runs_block}
use Rattle.run_laws.proofs.BlocksInOrder.{all_answered, all_in_order}
use Rattle.run_laws.proofs.RunTells.{run_tells}

has_blocked : (document : Document) (report : Report) (seen : Seen) (t : Traced) (server : Server) → IsReported document report seen t server
    → HasBlocked (journal_before document).blocked report.blocked (answered_in (moments report))
has_blocked document report seen t server is =
    subst (HasBlocked (journal_before document).blocked report.blocked)
    (sym (run_answers t.machine.event (moments report) seen.history (run_tells document is.run.place report.notes report.served seen t is.run.finishing)))
    (subst (λ (blocked : List Ltxid). HasBlocked (journal_before document).blocked blocked (answered_of seen.history)) (sym is.blocked) (runs_block (service_base document) seen.history server is.runs))

pub blocks_answered_law : BlocksAreAnswered
blocks_answered_law document report seen t server is =
    all_answered (journal_before document).blocked report.blocked (answered_in (moments report)) (has_blocked document report seen t server is)

pub blocks_order_law : BlocksComeInOrder
blocks_order_law document report seen t server is =
    all_in_order (journal_before document).blocked report.blocked (answered_in (moments report)) (has_blocked document report seen t server is)
