use Rattle.report_reader.proofs.ReadReports.{report_read}
use Rattle.report_reader.proofs.laws.reports_are_read_as_told.Goals as goal

pub returns : goal.returns
returns c = report_read
