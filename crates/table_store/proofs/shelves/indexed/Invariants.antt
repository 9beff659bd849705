use Rattle.std.proofs.Common.{◌≡◌}
use Rattle.table_store.specs.Rows.{IsShelved, all_rows}
use Rattle.table_store.proofs.shelves.indexed.Given as goal

abbrev pub invariant-loop-index : goal.invariant-loop-index
invariant-loop-index l = IsShelved l.shelves.entries × (all_rows l.shelves.entries ≡ all_rows l.fn.shelves.entries)
