use Rattle.std.proofs.Common.{◌-◌, ◌++◌, ℕ, List, length, map, Vec, Global}
use Rattle.disk_model.specs.Disk.{OnlyReads}
use Rattle.redo_store.specs.Walk.{HasRead}
use Rattle.redo_store.proofs.walk.Walk.rest.Given as goal

abbrev pub invariant-loop-payloads : goal.invariant-loop-payloads
invariant-loop-payloads g l =
    let first = g.D.Disk.state l.fn.disk in
    record {
      only_reads : OnlyReads ⊥ first (g.D.Disk.state l.disk);
      read : (done : List (List ℕ)) → HasRead l.fn.self done first.now.seen → HasRead l.self (done ++ map (λ (v : Vec ℕ Global). v.items) l.payloads.items) first.now.seen;
    }

abbrev pub decreases-loop-payloads : goal.decreases-loop-payloads
decreases-loop-payloads g l = length (g.D.Disk.state l.fn.disk).now.seen - l.self.place
