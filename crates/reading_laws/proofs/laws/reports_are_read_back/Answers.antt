use Rattle.reading_laws.proofs.ReportBack.{report_back}
use Rattle.reading_laws.proofs.laws.reports_are_read_back.Goals as goal

pub returns : goal.returns
returns c = report_back
