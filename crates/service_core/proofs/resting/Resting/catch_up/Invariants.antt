use Rattle.std.proofs.Common.{◌≡◌}
use Rattle.disk_model.specs.Disk.{OnlyReads}
use Rattle.service_core.specs.Keeping.{Rests, rest_of}
use Rattle.service_core.proofs.resting.Resting.catch_up.Given as goal

abbrev pub invariant-loop : goal.invariant-loop
invariant-loop g l =
    let first = g.D.Disk.state l.fn.disk in
    record {
      only_reads : OnlyReads ⊥ first (g.D.Disk.state l.disk);
      rests : Rests first.now.seen l.self;
      grants : l.self.core.grants ≡ l.fn.self.core.grants;
    }

abbrev pub decreases-loop : goal.decreases-loop
decreases-loop g l = rest_of l.self (g.D.Disk.state l.fn.disk)
