use Rattle.shown_clauses.specs.meaning.Showings.{calls_served}
use Rattle.shown_laws.proofs.judged.ReportsTold.{reports_hold}
use Rattle.shown_laws.proofs.reports.reports_serve_calls.Goals as goal

pub returns : goal.returns
returns c = reports_hold c.steps_are_told.ensures.finishing calls_served c.calls_are_served.ensures
