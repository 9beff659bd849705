use Rattle.std.proofs.Common.{◌≡◌, ◌≤◌, ◌++◌, drop, length}
use Rattle.std.specs.Prelude.{All}
use Rattle.run_clauses.specs.meaning.Moments.{in_order}
use Rattle.report_moments.specs.Views.{moments_as}
use Rattle.report_moments.specs.Places.{IsPlaced}
use Rattle.report_moments.proofs.moments.in_order.Given as goal

abbrev pub invariant-loop-at : goal.invariant-loop-at
invariant-loop-at l = record {
  told : moments_as l.all.items ++ in_order (drop l.at l.items) (moments_as (drop l.next l.notes)) ≡ in_order l.items (moments_as l.notes);
  within : l.next ≤ length l.notes;
  placed : All (IsPlaced l.report) l.notes → All (IsPlaced l.report) l.all.items;
}
