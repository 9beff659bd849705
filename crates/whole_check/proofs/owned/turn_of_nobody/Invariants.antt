use Rattle.std.proofs.Common.{◌≡◌, drop}
use Rattle.std.specs.Prelude.{◌&&◌, is_none}
use Rattle.std.specs.List.{list_all}
use Rattle.shown_clauses.specs.meaning.Turns.{has_client}
use Rattle.whole_check.proofs.owned.turn_of_nobody.Given as goal

abbrev pub invariant-loop-turn : goal.invariant-loop-turn
invariant-loop-turn l = (is_none l.found && list_all (has_client l.clients) (drop l.turn-index l.turns)) ≡ list_all (has_client l.clients) l.turns
