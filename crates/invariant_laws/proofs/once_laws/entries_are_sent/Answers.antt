use Rattle.invariant_laws.proofs.entries.KeptSent.{sent_law}
use Rattle.invariant_laws.proofs.once_laws.entries_are_sent.Goals as goal

pub returns : goal.returns
returns c = sent_law c.runs_number.ensures.numbers
