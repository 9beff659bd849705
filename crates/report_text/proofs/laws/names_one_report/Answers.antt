use Rattle.report_text.proofs.ReportBack.{one_report}
use Rattle.report_text.proofs.TextBack.{one_text}
use Rattle.report_text.proofs.laws.names_one_report.Goals as goal

pub returns-clause-value : goal.returns-clause-value
returns-clause-value c = one_report

pub returns-clause-text : goal.returns-clause-text
returns-clause-text c = one_text
