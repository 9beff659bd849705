use Rattle.std.proofs.Common.{◌≡◌, drop}
use Rattle.std.specs.List.{list_all}
use Rattle.run_clauses.specs.meaning.Tried.{holds}
use Rattle.entry_check.specs.Once.{at_most_one}
use Rattle.entry_check.proofs.tried.list_with_two.Given as goal

abbrev pub invariant-loop-at : goal.invariant-loop-at
invariant-loop-at l = list_all (at_most_one (holds l.stored)) (drop l.at l.lists) ≡ list_all (at_most_one (holds l.stored)) l.lists
