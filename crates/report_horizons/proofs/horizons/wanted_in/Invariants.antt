use Rattle.std.proofs.Common.{◌≡◌, ◌≤◌, ◌+◌, ◌++◌, drop}
use Rattle.run_clauses.specs.meaning.Horizons.{first_opening, wanted_from}
use Rattle.report_horizons.specs.Horizons.{openings_as, last_event, IsFrontAt}
use Rattle.report_horizons.proofs.horizons.wanted_in.Given as goal

abbrev pub invariant-loop-at : goal.invariant-loop-at
invariant-loop-at l = record {
  so_far : l.all ++ wanted_from l.retention (l.at + 1) (openings_as l.openings) (drop l.at l.notes) ≡ wanted_from l.retention 1 (first_opening l.opened l.last) l.notes;
  last : last_event 0 l.all ≤ l.at;
  within : l.openings.tick ≤ l.at;
  front : IsFrontAt l.retention l.front (openings_as l.openings);
}
