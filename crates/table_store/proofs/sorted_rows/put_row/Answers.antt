use Rattle.std.proofs.Common.{map, ap, ◌∙◌, rules, arith}
use Rattle.table_store.specs.Given.{keyed}
use Rattle.table_store.proofs.Rising.{below_in, put_behind, put_between, put_over}
use Rattle.table_store.proofs.sorted_rows.put_row.Goals as goal

pub returns-then-at-len-clause-ok : goal.returns-then-at-len-clause-ok
returns-then-at-len-clause-ok c =
    ap (map keyed) (search rules)
    ∙ put_behind c.args.rows.now.items c.args.key.now c.args.row c.count_below-at.result (below_in c.args.key.now c.as_slice.result.now c.args.rows.now.items c.count_below-at.result c.as_slice.ensures.value c.count_below-at.ensures.point) (omega (arith, c.if-at-len.true, c.len.ensures)) c.requires.own

pub returns-then-is_key-clause-ok : goal.returns-then-is_key-clause-ok
returns-then-is_key-clause-ok c =
    put_over c.args.rows.now.items c.args.key.now c.args.row c.index.result.now c.count_below-at.result (below_in c.args.key.now c.as_slice.result.now c.args.rows.now.items c.count_below-at.result c.as_slice.ensures.value c.count_below-at.ensures.point) (omega (arith, c.if-at-len.false, c.len.ensures))
    (search rules) c.requires.own

pub returns-clause-ok : goal.returns-clause-ok
returns-clause-ok c =
    ap (map keyed) c.in_ok-insert.ensures.items
    ∙ put_between c.args.rows.now.items c.args.key.now c.args.row c.index.result.now c.count_below-at.result (below_in c.args.key.now c.as_slice.result.now c.args.rows.now.items c.count_below-at.result c.as_slice.ensures.value c.count_below-at.ensures.point) (omega (arith, c.if-at-len.false, c.len.ensures))
    (search rules) c.requires.own
