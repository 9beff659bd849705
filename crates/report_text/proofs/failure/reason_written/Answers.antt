use Rattle.report_text.specs.meaning.Failures.{reason_value}
use Rattle.report_text.proofs.failure.reason_written.Goals as goal

pub returns-in-AfterCommit : goal.returns-in-AfterCommit
unfolding reason_value
returns-in-AfterCommit c = rw c.in-AfterCommit.is c.lone-in-AfterCommit.ensures
