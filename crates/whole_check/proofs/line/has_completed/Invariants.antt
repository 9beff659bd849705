use Rattle.std.proofs.Common.{◌≡◌, drop}
use Rattle.std.specs.List.{list_any}
use Rattle.shown_clauses.specs.meaning.Showings.{says_completed}
use Rattle.whole_check.proofs.line.has_completed.Given as goal

abbrev pub invariant-loop-outcome : goal.invariant-loop-outcome
invariant-loop-outcome l = list_any (says_completed l.ltxid) (drop l.outcome-index l.outcomes) ≡ list_any (says_completed l.ltxid) l.outcomes
