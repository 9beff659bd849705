use Rattle.std.proofs.Common.{◌-◌, length}
use Rattle.disk_model.specs.Disk.{OnlyReads}
use Rattle.redo_store.specs.Redo.{tail_of}
use Rattle.commit_log.proofs.Telling.{HasTold}
use Rattle.commit_log.proofs.log.Log.recorded.Given as goal

abbrev pub invariant-loop-told : goal.invariant-loop-told
invariant-loop-told g l =
    let first = g.D.Disk.state l.fn.disk in
    record {
      only_reads : OnlyReads ⊥ first (g.D.Disk.state l.disk);
      told : HasTold l.told l.log first.now.seen;
    }

abbrev pub decreases-loop-told : goal.decreases-loop-told
decreases-loop-told g l = length (g.D.Disk.state l.fn.disk).now.seen - tail_of l.log.redo
