use Rattle.std.proofs.Common.{◌≡◌, ◌++◌, map, drop}
use Rattle.shown_clauses.specs.meaning.Turns.{turns_of}
use Rattle.whole_check.specs.Views.{owned_as}
use Rattle.whole_check.proofs.owned.owned_of.Given as goal

abbrev pub invariant-loop-turn : goal.invariant-loop-turn
invariant-loop-turn l = map owned_as l.owned.items ++ turns_of l.client (drop l.turn-index l.turns) ≡ turns_of l.client l.turns
