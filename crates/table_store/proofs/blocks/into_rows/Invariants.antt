use Rattle.std.proofs.Common.{◌≡◌, ◌++◌}
use Rattle.table_store.specs.Blocks.{rows_in}
use Rattle.table_store.proofs.blocks.into_rows.Given as goal

abbrev pub invariant-loop-block : goal.invariant-loop-block
invariant-loop-block l = l.rows.items ++ rows_in l.block-iterator.rest.items ≡ rows_in l.fn.blocks.items
