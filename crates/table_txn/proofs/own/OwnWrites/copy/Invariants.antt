use Rattle.std.proofs.Common.{◌≡◌, take}
use Rattle.table_txn.proofs.own.OwnWrites.copy.Given as goal

abbrev pub invariant-loop-write : goal.invariant-loop-write
invariant-loop-write l = (l.made ≡ take l.write-index l.write-items) × (l.write-items ≡ l.self)
