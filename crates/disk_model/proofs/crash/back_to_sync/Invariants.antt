use Rattle.std.proofs.Common.{◌≡◌, vec_len}
use Rattle.disk_model.specs.Log.{first_bytes, synced_of}
use Rattle.disk_model.specs.InnerLog.{IsLog}
use Rattle.disk_model.proofs.crash.back_to_sync.Given as goal

abbrev pub decreases-loop-write : goal.decreases-loop-write
decreases-loop-write l = vec_len l.log

abbrev pub invariant-loop-write : goal.invariant-loop-write
invariant-loop-write l =
    let first = first_bytes l.fn.log.items l.fn.bytes.items in
    record {
      same_first : first_bytes l.log.items l.bytes.items ≡ first;
      same_synced : synced_of first l.log.items l.bytes.items ≡ synced_of first l.fn.log.items l.fn.bytes.items;
      fits : IsLog l.log.items l.bytes.items;
    }
