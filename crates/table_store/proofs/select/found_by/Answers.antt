use Rattle.std.proofs.Common.{rules, arith, refl, ◌∙◌}
use Rattle.svc_values.proofs.Offered.{cmp_is}
use Rattle.table_store.proofs.Pairs.{pair_cmp_is}
use Rattle.table_store.proofs.Walks.{forward, walk_begins, walk_goes_on, too_many, walk_ends}
use Rattle.table_store.proofs.select.found_by.Goals as goal

pub range-pair-items-requires : goal.range-pair-items-requires
range-pair-items-requires c = rw (c.in_ok-ends.ensures, pair_cmp_is) (forward c.args.test c.args.value.now)

pub loop-pair-init : goal.loop-pair-init
loop-pair-init c =
    let walk = rw (pair_cmp_is, c.in_ok-ends.ensures) at (c.range-pair-items.ensures.between tt) in
    walk_begins c.args.rows.now c.args.but.now c.args.index.now.column c.args.test c.args.value.now c.args.index.now c.into_iter-pair-iterator.result c.blocks-2.ensures.rising c.requires refl (c.into_iter-pair-iterator.ensures.into_iter_gives ∙ walk)
    c.new-found.result.entries c.new-found.ensures.empty

pub returns-then-len-gt-ROW_LIMIT : goal.returns-then-len-gt-ROW_LIMIT
returns-then-len-gt-ROW_LIMIT c =
    too_many c.args.rows.now c.args.but.now c.args.index.now.column c.args.test c.args.value.now c.loop-pair.pair-iterator c.loop-pair.found.entries c.loop-pair.invariant
    (rw cmp_is at c.len.ensures.ordered) (omega (arith, c.if-len-gt-ROW_LIMIT.true, c.len.ensures.len))

pub loop-pair-preserved : goal.loop-pair-preserved
loop-pair-preserved c =
    walk_goes_on c.args.rows.now c.args.but.now c.args.index.now.column c.args.test c.args.value.now c.loop-pair.pair-iterator c.next.new.self c.in-Some.pair.now c.loop-pair.found.entries c.take_row.new.found.entries c.loop-pair.invariant
    c.in-Some.ensures.steps c.in_ok-take_row.ensures

pub returns-then-len-gt-ROW_LIMIT-2 : goal.returns-then-len-gt-ROW_LIMIT-2
returns-then-len-gt-ROW_LIMIT-2 c =
    too_many c.args.rows.now c.args.but.now c.args.index.now.column c.args.test c.args.value.now c.loop-pair.pair-iterator c.loop-pair.found.entries c.loop-pair.invariant
    (rw cmp_is at c.len-2.ensures.ordered) (omega (arith, c.if-len-gt-ROW_LIMIT-2.true, c.len-2.ensures.len))

pub returns : goal.returns
returns c =
    walk_ends c.args.rows.now c.args.but.now c.args.index.now.column c.args.test c.args.value.now c.loop-pair.pair-iterator c.loop-pair.found.entries c.loop-pair.invariant
    (rw cmp_is at c.len-2.ensures.ordered) (search rules) (omega (arith, c.if-len-gt-ROW_LIMIT-2.false, c.len-2.ensures.len))
