use Rattle.report_text.proofs.item.ServedWriterWriterServed.write.Goals as goal

pub returns-in-Outcome : goal.returns-in-Outcome
returns-in-Outcome c = rw c.in-Outcome.is c.outcome_written.ensures

pub returns-in-CrashedOutcome : goal.returns-in-CrashedOutcome
returns-in-CrashedOutcome c = rw c.in-CrashedOutcome.is c.crashed_outcome_written.ensures
