use Rattle.std.proofs.Common.{◌≡◌, ◌+◌, ◌<◌, drop, length}
use Rattle.std.specs.Prelude.{◌^◌}
use Rattle.table_store.specs.Blocks.{rows_in}
use Rattle.table_store.proofs.blocks.count.Given as goal

abbrev pub invariant-loop-block : goal.invariant-loop-block
invariant-loop-block l =
    (l.total + length (rows_in (drop l.block-index l.blocks)) ≡ length (rows_in l.blocks)) × (l.total < 2 ^ 63)
