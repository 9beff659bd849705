use Rattle.shown_laws.proofs.judged.WholeReports.{identifiers_listed}
use Rattle.shown_laws.proofs.reports.reports_identify_calls.Goals as goal

pub returns : goal.returns
returns c = identifiers_listed c.steps_are_told.ensures.finishing c.identifiers_are_stored.ensures
