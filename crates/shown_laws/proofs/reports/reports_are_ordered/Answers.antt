use Rattle.shown_laws.proofs.judged.ReportsOrdered.{reports_ordered}
use Rattle.shown_laws.proofs.reports.reports_are_ordered.Goals as goal

pub returns : goal.returns
returns c = reports_ordered c.steps_are_told.ensures.finishing c.runs_keep_invariant.ensures.finishing
