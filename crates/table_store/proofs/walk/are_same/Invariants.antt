use Rattle.std.proofs.Common.{◌≡◌, drop}
use Rattle.table_store.specs.Blocks.{rows_from, rows_in, same_rows}
use Rattle.table_store.proofs.walk.are_same.Given as goal

-- what is left stands from here on as all blocks stand from the first row on
abbrev pub invariant-loop-block : goal.invariant-loop-block
invariant-loop-block l = same_rows (rows_from l.one l.at) (rows_in (drop l.block-index l.other)) ≡ same_rows (rows_in l.one) (rows_in l.other)
