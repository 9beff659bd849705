use Rattle.std.proofs.Common.{◌≡◌, ◌++◌, drop}
use Rattle.table_store.proofs.blocks.shared.Given as goal

abbrev pub invariant-loop-block : goal.invariant-loop-block
invariant-loop-block l = l.made.items ++ drop l.block-index l.blocks ≡ l.blocks
