use Rattle.legal_laws.specs.MarksTold.{ReportsTellMarked}
use Rattle.legal_laws.proofs.laws.runs_are_legal_told.Goals as goal

pub returns : goal.returns
returns c = record { legal = c.told_runs_are_legal.ensures.legal marked; fresh = c.told_runs_are_legal.ensures.fresh marked }
  where
    marked : ReportsTellMarked
    marked = c.told_replays_bring_draws.ensures c.replays_are_told.ensures
