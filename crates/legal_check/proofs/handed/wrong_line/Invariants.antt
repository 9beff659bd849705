use Rattle.std.proofs.Common.{drop}
use Rattle.legal_check.proofs.Lines.{IsHanded}
use Rattle.legal_check.proofs.handed.wrong_line.Given as goal

abbrev pub invariant-loop-one : goal.invariant-loop-one
invariant-loop-one l = IsHanded l.standing l.items (drop l.one-index l.items) l.alerts
