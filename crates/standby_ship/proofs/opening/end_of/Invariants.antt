use Rattle.std.proofs.Common.{◌-◌, ℕ, List, length}
use Rattle.disk_model.specs.Disk.{OnlyReads}
use Rattle.redo_store.specs.Walk.{HasRead, place_of}
use Rattle.standby_ship.proofs.opening.end_of.Given as goal

abbrev pub invariant-loop : goal.invariant-loop
invariant-loop g l =
    let first = g.D.Disk.state l.fn.disk in
    record {
      only_reads : OnlyReads ⊥ first (g.D.Disk.state l.disk);
      read : (done : List (List ℕ)) × HasRead l.walk done first.now.seen;
    }

abbrev pub decreases-loop : goal.decreases-loop
decreases-loop g l = length (g.D.Disk.state l.fn.disk).now.seen - place_of l.walk
