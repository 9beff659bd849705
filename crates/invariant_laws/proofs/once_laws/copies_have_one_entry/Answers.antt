use Rattle.invariant_laws.proofs.entries.KeptCopies.{copies_law}
use Rattle.invariant_laws.proofs.once_laws.copies_have_one_entry.Goals as goal

pub returns : goal.returns
returns c = copies_law c.keeps_journal.ensures.keeps c.runs_number.ensures.numbers
