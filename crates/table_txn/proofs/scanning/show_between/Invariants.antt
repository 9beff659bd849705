use Rattle.std.proofs.Common.{◌≡◌, List, ◌++◌, drop}
use Rattle.std.specs.Prelude.{fold}
use Rattle.std.specs.Map.{values_of}
use Rattle.std.specs.Range.Bound.{bound_map}
use Rattle.std.specs.BTreeMap.Range.{entries_between}
use Rattle.svc_values.specs.declared.value.Value.{Value}
use Rattle.svc_values.specs.meaning.Order.{value_cmp}
use Rattle.stmt_meaning.specs.InnerScans.{next_scan, last_answer}
use Rattle.table_store.specs.Blocks.{entries_in}
use Rattle.table_txn.proofs.scanning.show_between.Given as goal

-- what is left is answered from here on as all blocks are from the first one on
abbrev pub invariant-loop-block : goal.invariant-loop-block
invariant-loop-block l =
    let lo = bound_map (λ x. x.now) l.from in
    let hi = bound_map (λ x. x.now) l.to in
    (more : List (List Value)) → last_answer (fold next_scan l.scan (values_of (entries_between value_cmp lo hi (entries_in (drop l.block-index l.block-items))) ++ more))
    ≡ last_answer (fold next_scan l.fn.scan (values_of (entries_between value_cmp lo hi (entries_in l.block-items)) ++ more))
