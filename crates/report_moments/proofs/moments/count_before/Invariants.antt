use Rattle.std.proofs.Common.{◌≡◌, ◌++◌, take, drop}
use Rattle.run_clauses.specs.meaning.Moments.{before_event, from_event}
use Rattle.report_moments.specs.Views.{moments_as}
use Rattle.report_moments.proofs.moments.count_before.Given as goal

abbrev pub invariant-loop-at : goal.invariant-loop-at
invariant-loop-at l = record {
  before : moments_as (take l.at l.notes) ++ before_event l.event (moments_as (drop l.at l.notes)) ≡ before_event l.event (moments_as l.notes);
  left : from_event l.event (moments_as (drop l.at l.notes)) ≡ from_event l.event (moments_as l.notes);
}
