use Rattle.std.proofs.Common.{◌≡◌, ◌-◌}
use Rattle.server_model.specs.meaning.NewValues.{gave_often}
use Rattle.legal_draws.proofs.count.Count.gave_often.Given as goal

abbrev pub invariant-loop : goal.invariant-loop
invariant-loop l = gave_often (l.values - l.counter) l.count ≡ gave_often l.values l.self
