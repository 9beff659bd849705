use Rattle.std.proofs.Common.{◌++◌, drop, suc, ap, sym, ◌∙◌}
use Rattle.table_store.specs.Blocks.{is_rest, rows_from, rows_in, same_rows}
use Rattle.table_store.proofs.Same.{sorted_same}
use Rattle.table_store.proofs.Walked.{left_first, met_last, none_left}
use Rattle.table_store.proofs.walk.are_same.Goals as goal

pub returns-in-None : goal.returns-in-None
returns-in-None c =
    let one = c.args.one.now in
    let other = c.args.other.now in
    let at = c.loop-block.at in
    let rest = rows_in (drop (suc c.loop-block.block-index) other) in
    sym (ap (λ o. is_rest one o rest) c.in-None.is)
    ∙ sym (c.behind.ensures rest)
    ∙ ap (λ l. same_rows (rows_from one at) (l ++ rest)) c.rows.ensures.rows
    ∙ sym (ap (same_rows (rows_from one at)) (left_first other c.loop-block.block-index c.block-item.result c.block-item.is c.loop-block-test.true))
    ∙ c.loop-block.invariant
    ∙ sorted_same (rows_in one) (rows_in other)

pub returns : goal.returns
returns c =
    let one = c.args.one.now in
    let other = c.args.other.now in
    met_last one c.loop-block.at _ c.next.result c.is_none.result c.next.ensures c.is_none.ensures
    ∙ sym (ap (same_rows (rows_from one c.loop-block.at)) (none_left other c.loop-block.block-index c.loop-block-test.false))
    ∙ c.loop-block.invariant
    ∙ sorted_same (rows_in one) (rows_in other)
