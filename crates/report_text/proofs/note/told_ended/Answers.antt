use Rattle.report_text.proofs.note.told_ended.Goals as goal

pub returns-in-Committed : goal.returns-in-Committed
returns-in-Committed c = rw c.in-Committed.is c.flag_ended.ensures

pub returns-in-Forgotten : goal.returns-in-Forgotten
returns-in-Forgotten c = rw c.in-Forgotten.is c.number_ended-in-Forgotten.ensures
