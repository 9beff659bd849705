use Rattle.std.proofs.Common.{◌+◌, ap, sym, ◌∙◌}
use Rattle.legal_draws.proofs.WaysGiven.{given_none, given_some}
use Rattle.legal_draws.proofs.numbers.Numbers.ways_of.Goals as goal

pub returns-in_ok-ways-in-Some : goal.returns-in_ok-ways-in-Some
returns-in_ok-ways-in-Some c = given_some c.args.self.now c.args.name.now c.in-Some.count.now c.in-Some.ensures ∙ sym (c.in_ok-ways-in-Some.ensures ∙ ap (λ n. n + 1) c.maybe.ensures)

pub returns-in-None : goal.returns-in-None
returns-in-None c = given_none c.args.self.now c.args.name.now c.in-None.ensures
