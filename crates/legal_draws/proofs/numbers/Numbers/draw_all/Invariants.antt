use Rattle.std.proofs.Common.{◌≡◌, drop}
use Rattle.server_model.specs.meaning.NewValues.{drawn_by}
use Rattle.legal_draws.proofs.numbers.Numbers.draw_all.Given as goal

abbrev pub invariant-loop-given : goal.invariant-loop-given
invariant-loop-given l = drawn_by l.now l.kept (drop l.given-index l.draws) l.self ≡ drawn_by l.now l.initial.kept l.draws l.initial.self
