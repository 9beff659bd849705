use Rattle.report_text.specs.meaning.Calls.{call_value}
use Rattle.report_text.proofs.call.CallWriterWriterCall.write.Goals as goal

pub returns-in-Disable : goal.returns-in-Disable
unfolding call_value
returns-in-Disable c = rw c.in-Disable.is c.word_written.ensures

pub returns-in-Rollback : goal.returns-in-Rollback
unfolding call_value
returns-in-Rollback c = rw c.in-Rollback.is c.word_written-in-Rollback.ensures
