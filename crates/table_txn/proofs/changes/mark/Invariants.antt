use Rattle.std.proofs.Common.{◌≡◌, ℕ, List, drop}
use Rattle.table_txn.proofs.Changing.{change_behind}
use Rattle.table_txn.proofs.changes.mark.Given as goal

abbrev pub invariant-loop-write : goal.invariant-loop-write
invariant-loop-write l = record {
  last : (table : List ℕ) → change_behind l.last.entries (drop l.write-index l.writes) l.commits table ≡ change_behind l.fn.last.entries l.writes l.commits table;
  items : l.write-items ≡ l.writes;
}
