use Rattle.std.proofs.Common.{◌-◌, length, take, drop, sym, ap, ◌∙◌, true, false}
use Rattle.stmt_meaning.proofs.Adjacent.{are_ordered, order_goes_on, order_ends, order_done, tells_order, first_and_rest}
use Rattle.stmt_meaning.proofs.fitting.are_tables.Goals as goal

pub loop-row-init : goal.loop-row-init
loop-row-init c = ap are_ordered (first_and_rest c.args.rows.now c.first-item.result c.in-len1-up.len_at_least c.first-item.is)

pub loop-row-preserved : goal.loop-row-preserved
loop-row-preserved c =
    let rest = take (length c.args.rows.now - 1) (drop 1 c.args.rows.now) in
    order_goes_on c.loop-row.before.now c.row-item.result rest c.loop-row.row-index c.loop-row-test.true c.row-item.is (are_ordered c.args.rows.now) c.loop-row.invariant (sym c.comes_before.ensures ∙ c.if-not-comes_before.false)

pub returns-then-not-comes_before : goal.returns-then-not-comes_before
returns-then-not-comes_before c =
    let rest = take (length c.args.rows.now - 1) (drop 1 c.args.rows.now) in
    tells_order c.args.rows.now false (order_ends c.loop-row.before.now c.row-item.result rest c.loop-row.row-index c.loop-row-test.true c.row-item.is (are_ordered c.args.rows.now) c.loop-row.invariant (sym c.comes_before.ensures ∙ c.if-not-comes_before.true))

pub returns : goal.returns
returns c =
    let rest = take (length c.args.rows.now - 1) (drop 1 c.args.rows.now) in
    tells_order c.args.rows.now true (order_done c.loop-row.before.now rest c.loop-row.row-index c.loop-row-test.false (are_ordered c.args.rows.now) c.loop-row.invariant)
