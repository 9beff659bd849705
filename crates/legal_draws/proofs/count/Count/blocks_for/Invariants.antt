use Rattle.std.proofs.Common.{◌≡◌, ◌+◌, ◌-◌}
use Rattle.server_model.specs.meaning.NewValues.{blocks_for}
use Rattle.legal_draws.proofs.count.Count.blocks_for.Given as goal

abbrev pub invariant-loop : goal.invariant-loop
invariant-loop l = l.blocks + blocks_for (l.values - l.counter) l.count.next l.count.upto ≡ blocks_for l.values l.self.next l.self.upto
