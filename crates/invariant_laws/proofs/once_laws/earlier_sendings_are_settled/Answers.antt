use Rattle.invariant_laws.proofs.sendings.KeptSettled.{settled_law}
use Rattle.invariant_laws.proofs.once_laws.earlier_sendings_are_settled.Goals as goal

pub returns : goal.returns
returns c = settled_law c.keeps_journal.ensures.keeps c.runs_number.ensures.numbers
