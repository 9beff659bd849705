use Rattle.std.proofs.Common.{◌≡◌, ◌≤◌, length, take, vec_len}
use Rattle.table_txn.specs.Own.{AreOwn}
use Rattle.table_txn.proofs.own.OwnWrites.keep_first.Given as goal

abbrev pub invariant-loop-write : goal.invariant-loop-write
invariant-loop-write l = record {
  own : AreOwn l.writes.items l.self-inside.before.items l.self-inside.latest;
  front : l.writes.items ≡ take (length l.writes.items) l.fn.self;
  few : l.count ≤ length l.writes.items;
}

abbrev pub decreases-loop-write : goal.decreases-loop-write
decreases-loop-write l = vec_len l.writes
