use Rattle.std.proofs.Common.{◌≡◌, drop}
use Rattle.std.specs.List.{list_all}
use Rattle.stored_check.specs.Facts.{marks_in, is_stored}
use Rattle.stored_check.proofs.known.Known.wrong_of_all.Given as goal

abbrev pub invariant-loop-at : goal.invariant-loop-at
invariant-loop-at l = list_all (is_stored (marks_in l.self)) (drop l.at l.outcomes) ≡ list_all (is_stored (marks_in l.self)) l.outcomes
