use Rattle.std.proofs.Common.{◌≡◌, ◌∷◌, drop}
use Rattle.stmt_meaning.proofs.Adjacent.{are_ordered}
use Rattle.stmt_meaning.proofs.fitting.are_tables.Given as goal

abbrev pub invariant-loop-row : goal.invariant-loop-row
invariant-loop-row l = are_ordered (l.before ∷ drop l.row-index l.rest) ≡ are_ordered l.rows
