use Rattle.invariant_laws.proofs.entries.KeptEnded.{ended_law}
use Rattle.invariant_laws.proofs.once_laws.requests_end_rightly.Goals as goal

pub returns : goal.returns
returns c = ended_law
