use Rattle.caused_laws.proofs.Judging.{judges_report}
use Rattle.caused_laws.proofs.laws.report_is_caused.Goals as goal

pub returns : goal.returns
returns c = judges_report
