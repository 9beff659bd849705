use Rattle.std.proofs.Common.{◌+◌, drop, map}
use Rattle.std.specs.BTreeMap.Range.{entries_between}
use Rattle.svc_values.specs.meaning.Order.{value_cmp}
use Rattle.table_store.specs.Blocks.{entries_in}
use Rattle.table_store.specs.Given.{keyed}
use Rattle.table_store.specs.Selection.{keys_sought}
use Rattle.table_store.proofs.Takes.{block_next, found_none, front_rises, wanted_of}
use Rattle.table_store.proofs.select.found_in.Goals as goal

pub loop-block-init : goal.loop-block-init
loop-block-init c =
    let between = rw (c.keys_sought.ensures.from, c.keys_sought.ensures.to) at c.between-block-items.ensures.between in
    found_none c.args.but.now c.args.column c.args.test c.args.value.now c.args.rows.now (entries_in c.between-block-items.result.now) c.new-found.result.entries c.requires c.between-block-items.ensures.rising c.new-found.ensures.empty between

pub take_rows-requires-clause-rising : goal.take_rows-requires-clause-rising
take_rows-requires-clause-rising c =
    let ends = keys_sought c.args.column c.args.test c.args.value.now in
    let blocks = c.between-block-items.result.now in
    let at = c.loop-block.block-index in
    let part = rw (c.keys_sought.ensures.from, c.keys_sought.ensures.to) at c.between-rows.ensures in
    front_rises c.args.but.now c.args.column c.args.test c.args.value.now (wanted_of c.args.but.now c.args.column c.args.test c.args.value.now c.args.rows.now)
    (entries_between value_cmp ends.0 ends.1 (entries_in (drop at blocks))) c.loop-block.found.entries c.loop-block.invariant (map keyed c.between-rows.result.now) (entries_between value_cmp ends.0 ends.1 (entries_in (drop (at + 1) blocks)))
    (block_next ends.0 ends.1 blocks at c.block-item.result c.between-rows.result.now c.block-item.is c.loop-block-test.true part)
