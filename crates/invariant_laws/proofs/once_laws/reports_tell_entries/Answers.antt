use Rattle.invariant_laws.proofs.entries.KeptOver.{over_law}
use Rattle.invariant_laws.proofs.once_laws.reports_tell_entries.Goals as goal

pub returns : goal.returns
returns c = over_law c.keeps_journal.ensures.keeps c.runs_number.ensures.numbers
