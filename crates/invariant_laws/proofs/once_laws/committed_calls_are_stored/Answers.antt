use Rattle.invariant_laws.proofs.sendings.KeptShownStored.{shown_stored_law}
use Rattle.invariant_laws.proofs.once_laws.committed_calls_are_stored.Goals as goal

pub returns : goal.returns
returns c = shown_stored_law c.runs_number.ensures.numbers
