use Rattle.std.proofs.Common.{◌≡◌, ◌≤◌, length, drop}
use Rattle.legal_draws.specs.Asking.{whole_from}
use Rattle.legal_draws.proofs.asked.whole_statements.Given as goal

abbrev pub invariant-loop-statement : goal.invariant-loop-statement
invariant-loop-statement l = record {
  counted : l.whole ≡ length l.asked.items;
  left : whole_from l.whole (drop l.statement-index l.statements) l.drawn ≡ whole_from 0 l.statements l.drawn;
  within : l.whole ≤ l.drawn;
}
