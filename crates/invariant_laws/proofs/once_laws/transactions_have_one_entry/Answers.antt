use Rattle.invariant_laws.proofs.entries.EntriesFew.{one_law}
use Rattle.invariant_laws.proofs.once_laws.transactions_have_one_entry.Goals as goal

pub returns : goal.returns
returns c = one_law c.keeps_journal.ensures.keeps c.runs_number.ensures.numbers
