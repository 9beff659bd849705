use Rattle.reading_laws.proofs.ReportKept.{form_kept}
use Rattle.reading_laws.proofs.laws.reports_read_have_the_form.Goals as goal

pub returns : goal.returns
returns c = form_kept c.reports_are_read_as_told.ensures
