use Rattle.std.proofs.Common.{sym, ◌∙◌, arith, length, ◌<◌, ◌+◌}
use Rattle.std.proofs.lemmas.Result.{IfOk-weaker}
use Rattle.svc_values.specs.declared.tables.Place.TheVariants as place
use Rattle.stmt_meaning.proofs.TableScans.{scan_more, scan_same, scan_end, scan_settled}
use Rattle.stmt_meaning.proofs.rows.scan_table.Goals as goal
use Rattle.stmt_meaning.proofs.rows.scan_table.Goals.{then-stands_in+in_ok-scan+else-is_settled, else-stands_in}

pub loop-row-preserved : goal.loop-row-preserved
loop-row-preserved c =
    let at = place.Table c.args.table.now in
    let lt : c.loop-row.row-index < length c.args.rows.now = omega arith in
    elim c.if-stands_in.branch [
      | then-stands_in+in_ok-scan+else-is_settled w ↦ w.scan-is ∙ (w.in_ok-scan.ensures ∙ scan_more at c.args.work c.args.rows.now c.loop-row.row-index c.row-item.result c.loop-row.scan lt c.row-item.is (sym c.stands_in.ensures ∙ w.if-stands_in.true) c.loop-row.invariant)
      | else-stands_in w ↦ w.scan-is ∙ scan_same at c.args.work c.args.rows.now c.loop-row.row-index c.row-item.result c.loop-row.scan lt c.row-item.is (sym c.stands_in.ensures ∙ w.if-stands_in.false) c.loop-row.invariant
    ]

pub returns-then-is_settled : goal.returns-then-is_settled
returns-then-is_settled c =
    let at = place.Table c.args.table.now in
    let lt : c.loop-row.row-index < length c.args.rows.now = omega arith in
    let more = scan_more at c.args.work c.args.rows.now c.loop-row.row-index c.row-item.result c.loop-row.scan lt c.row-item.is (sym c.stands_in.ensures ∙ c.if-stands_in.true) c.loop-row.invariant in
    IfOk-weaker c.answer.result _ _ (λ answer told. told ∙ scan_settled at c.args.work c.args.rows.now (c.loop-row.row-index + 1) c.in_ok-scan.scan (c.in_ok-scan.ensures ∙ more) (c.is_settled.ensures.settled c.if-is_settled.true)) c.answer.ensures

pub returns : goal.returns
returns c = IfOk-weaker c.answer-2.result _ _ (λ answer told. told ∙ scan_end (place.Table c.args.table.now) c.args.work c.args.rows.now c.loop-row.row-index c.loop-row.scan (omega arith) c.loop-row.invariant) c.answer-2.ensures
