use Rattle.std.proofs.Common.{◌≡◌, drop}
use Rattle.run_clauses.specs.meaning.Same.{has_answers}
use Rattle.entry_check.proofs.known.other_answers.Given as goal

abbrev pub invariant-loop-at : goal.invariant-loop-at
invariant-loop-at l = has_answers (drop l.at l.pieces) (drop l.at l.shown) ≡ has_answers l.pieces l.shown
