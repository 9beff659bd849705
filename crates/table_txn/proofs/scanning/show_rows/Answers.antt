use Rattle.std.proofs.Common.{◌++◌, drop, sym, ◌∙◌}
use Rattle.table_txn.proofs.scanning.show_rows.Goals as goal

pub returns-then-is_settled : goal.returns-then-is_settled
returns-then-is_settled c = λ more.
    let stays = c.is_settled.ensures.settled c.if-is_settled.true in
    stays more ∙ sym (stays (drop c.loop-row.row-index c.args.rows.now ++ more)) ∙ c.loop-row.invariant more
