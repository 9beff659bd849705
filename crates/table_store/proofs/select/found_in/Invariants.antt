use Rattle.std.proofs.Common.{drop}
use Rattle.std.specs.BTreeMap.Range.{entries_between}
use Rattle.svc_values.specs.meaning.Order.{value_cmp}
use Rattle.table_store.specs.Blocks.{entries_in}
use Rattle.table_store.specs.Selection.{keys_sought}
use Rattle.table_store.proofs.Takes.{FoundUpTo, wanted_of}
use Rattle.table_store.proofs.select.found_in.Given as goal

abbrev pub invariant-loop-block : goal.invariant-loop-block
invariant-loop-block l =
    let ends = keys_sought l.column l.test l.value in
    FoundUpTo l.but l.column l.test l.value (wanted_of l.but l.column l.test l.value l.rows) (entries_between value_cmp ends.0 ends.1 (entries_in (drop l.block-index l.block-items))) l.found.entries
