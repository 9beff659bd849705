use Rattle.std.proofs.Common.{◌∙◌, rules, arith}
use Rattle.table_store.proofs.Rising.{below_in, none_at, none_behind, taken_at}
use Rattle.table_store.proofs.sorted_rows.take_row.Goals as goal

pub returns-then-at-len : goal.returns-then-at-len
returns-then-at-len c =
    none_behind c.args.rows.now.items c.args.key.now c.count_below-at.result (below_in c.args.key.now c.as_slice.result.now c.args.rows.now.items c.count_below-at.result c.as_slice.ensures.value c.count_below-at.ensures.point) (omega (arith, c.if-at-len.true, c.len.ensures))

pub returns-then-not-is_key : goal.returns-then-not-is_key
returns-then-not-is_key c =
    none_at c.args.rows.now.items c.args.key.now c.index.result.now c.count_below-at.result c.requires (below_in c.args.key.now c.as_slice.result.now c.args.rows.now.items c.count_below-at.result c.as_slice.ensures.value c.count_below-at.ensures.point) (omega (arith, c.if-at-len.false, c.len.ensures))
    (search rules)

pub returns : goal.returns
returns c =
    c.remove.ensures.items
    ∙ taken_at c.args.rows.now.items c.args.key.now c.index.result.now c.count_below-at.result c.requires (below_in c.args.key.now c.as_slice.result.now c.args.rows.now.items c.count_below-at.result c.as_slice.ensures.value c.count_below-at.ensures.point) (omega (arith, c.if-at-len.false, c.len.ensures))
    (search rules)
