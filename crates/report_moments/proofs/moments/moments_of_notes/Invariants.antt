use Rattle.std.proofs.Common.{◌≡◌, ◌+◌, ◌++◌, drop}
use Rattle.std.specs.Prelude.{All}
use Rattle.run_clauses.specs.meaning.Moments.{moments_of_notes}
use Rattle.report_moments.specs.Views.{moments_as}
use Rattle.report_moments.specs.Places.{IsPlaced}
use Rattle.report_moments.proofs.moments.moments_of_notes.Given as goal

abbrev pub invariant-loop-at : goal.invariant-loop-at
invariant-loop-at l = record {
  told : moments_as l.all.items ++ moments_of_notes (l.at + 1) (drop l.at l.notes) ≡ moments_of_notes 1 l.notes;
  placed : All (IsPlaced l.report) l.all.items;
}
