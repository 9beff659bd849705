use Rattle.std.proofs.Common.{◌≡◌, ◌++◌}
use Rattle.table_store.specs.Blocks.{AreFilled, rows_in}
use Rattle.table_store.proofs.blocks.filled.Given as goal

abbrev pub invariant-loop-row : goal.invariant-loop-row
invariant-loop-row l =
    (rows_in l.made.items ++ (l.part.items ++ l.row-iterator.rest.items) ≡ l.fn.rows.items)
    × AreFilled l.made.items
