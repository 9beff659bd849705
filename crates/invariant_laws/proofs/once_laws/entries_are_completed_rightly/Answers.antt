use Rattle.invariant_laws.proofs.entries.KeptCompleted.{completed_law}
use Rattle.invariant_laws.proofs.once_laws.entries_are_completed_rightly.Goals as goal

pub returns : goal.returns
returns c = completed_law
