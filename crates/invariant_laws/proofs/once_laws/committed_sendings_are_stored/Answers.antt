use Rattle.invariant_laws.proofs.sendings.KeptStored.{stored_law}
use Rattle.invariant_laws.proofs.once_laws.committed_sendings_are_stored.Goals as goal

pub returns : goal.returns
returns c = stored_law c.runs_number.ensures.numbers
