use Rattle.std.proofs.Common.{◌≡◌, drop}
use Rattle.run_clauses.specs.meaning.Tried.{holds}
use Rattle.entry_check.specs.Once.{copies_known}
use Rattle.entry_check.proofs.once.copy_with_more.Given as goal

abbrev pub invariant-loop-at : goal.invariant-loop-at
invariant-loop-at l = copies_known (holds l.stored) (drop l.at l.copies) ≡ copies_known (holds l.stored) l.copies
