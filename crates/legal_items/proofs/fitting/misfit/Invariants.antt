use Rattle.std.proofs.Common.{◌≡◌, drop}
use Rattle.shown_clauses.specs.meaning.LegalItems.{outsides_fit}
use Rattle.legal_items.specs.Fitting.{misfit_from}
use Rattle.legal_items.proofs.fitting.misfit.Given as goal

abbrev pub invariant-loop-at : goal.invariant-loop-at
invariant-loop-at l = record {
  fit : outsides_fit (drop l.at l.schedule) (drop l.at l.notes) ≡ outsides_fit l.schedule l.notes;
  number : misfit_from l.at (drop l.at l.schedule) (drop l.at l.notes) ≡ misfit_from 0 l.schedule l.notes;
}
