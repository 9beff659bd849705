use Rattle.std.proofs.Common.{ap, ◌∙◌}
use Rattle.std.specs.Prelude.{Some, fold}
use Rattle.std.proofs.lemmas.Result.{IfOk-weaker}
use Rattle.svc_values.specs.declared.tables.Place.TheVariants as place
use Rattle.stmt_meaning.specs.meaning.Meaning.{seen_at}
use Rattle.stmt_meaning.specs.InnerScans.{next_scan, last_answer}
use Rattle.svc_values.specs.meaning.Tables.{with_writes}
use Rattle.table_txn.proofs.ScanSteps.{answer_is}
use Rattle.table_txn.proofs.scanning.answer_over.Goals as goal

pub returns-in_ok-show_over-in_default : goal.returns-in_ok-show_over-in_default
returns-in_ok-show_over-in_default c =
    let rows = seen_at (with_writes c.args.tables.now.rows c.args.own.now) (Some (place.Table c.args.table.now)) in
    IfOk-weaker c.answer.result _ _ (λ answer told. told ∙ answer_is c.args.work rows c.in_ok-show_over-in_default.field-0 (c.in_ok-show_over-in_default.ensures ∙ ap (λ s. last_answer (fold next_scan s rows)) c.new-scan.ensures)) c.answer.ensures
