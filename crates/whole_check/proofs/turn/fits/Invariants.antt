use Rattle.std.proofs.Common.{◌≡◌, ◌≤◌, [], map, reverse}
use Rattle.shown_clauses.specs.meaning.Turns.{fits_from}
use Rattle.report_story.specs.Views.{marked_as}
use Rattle.whole_check.specs.Marks.{calls_in}
use Rattle.whole_check.proofs.Fitting.{fits_since}
use Rattle.whole_check.proofs.turn.fits.Given as goal

abbrev pub invariant-loop-at : goal.invariant-loop-at
invariant-loop-at l =
    let marked = reverse (calls_in (map marked_as l.marked)) in
    record {
      rest : fits_since l.first marked l.script l.shown l.from l.at ≡ fits_from l.first marked [] l.script l.shown;
      behind : l.from ≤ l.at;
    }
