use Rattle.std.proofs.Common.{ap, sym, ◌∙◌}
use Rattle.std.specs.Prelude.{Some, fold}
use Rattle.std.specs.Option.{option_copied}
use Rattle.std.proofs.lemmas.Result.{IfOk-weaker}
use Rattle.svc_values.specs.declared.tables.Place.TheVariants as place
use Rattle.stmt_meaning.specs.meaning.Effects.{table_answer}
use Rattle.stmt_meaning.specs.meaning.Meaning.{seen_at}
use Rattle.stmt_meaning.specs.InnerScans.{next_scan, last_answer}
use Rattle.svc_values.specs.meaning.Tables.{with_writes}
use Rattle.table_txn.proofs.ScanSteps.{answer_is}
use Rattle.table_txn.proofs.Counts.{counted_is}
use Rattle.table_txn.proofs.scanning.committed_answer.Goals as goal

pub returns-in-Count : goal.returns-in-Count
returns-in-Count c =
    let rows = seen_at (with_writes c.args.tables.now.rows c.args.own.now) (Some (place.Table c.args.table.now)) in
    IfOk-weaker c.counted.result _ _
    (λ answer told. told ∙ counted_is c.args.tables.now.rows c.args.own.now c.args.table.now (option_copied c.row_map.result) c.row_map.ensures.rows c.requires ∙ sym (ap (λ w. table_answer w rows) c.in-Count.is))
    c.counted.ensures

pub returns-in_ok-show_committed-in_default : goal.returns-in_ok-show_committed-in_default
returns-in_ok-show_committed-in_default c =
    let rows = seen_at (with_writes c.args.tables.now.rows c.args.own.now) (Some (place.Table c.args.table.now)) in
    IfOk-weaker c.answer.result _ _ (λ answer told. told ∙ answer_is c.args.work rows c.in_ok-show_committed-in_default.field-0 (c.in_ok-show_committed-in_default.ensures ∙ ap (λ s. last_answer (fold next_scan s rows)) c.new-scan.ensures)) c.answer.ensures
