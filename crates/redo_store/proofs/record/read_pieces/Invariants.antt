use Rattle.std.proofs.Common.{◌-◌, ◌≡◌, ◌≤◌, length, take, drop}
use Rattle.disk_model.specs.Disk.{OnlyReads}
use Rattle.redo_store.proofs.record.read_pieces.Given as goal

abbrev pub invariant-loop-piece : goal.invariant-loop-piece
invariant-loop-piece g l =
    let first = g.D.Disk.state l.fn.disk in
    record {
      only_reads : OnlyReads ⊥ first (g.D.Disk.state l.disk);
      few : length l.bytes.items ≤ l.count;
      read : l.bytes.items ≡ take (length l.bytes.items) (drop l.place first.now.seen);
    }

abbrev pub decreases-loop-piece : goal.decreases-loop-piece
decreases-loop-piece g l = l.count - length l.bytes.items
