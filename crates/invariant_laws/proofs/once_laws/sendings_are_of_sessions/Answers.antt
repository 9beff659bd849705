use Rattle.invariant_laws.proofs.sendings.KeptOnLinks.{links_law}
use Rattle.invariant_laws.proofs.once_laws.sendings_are_of_sessions.Goals as goal

pub returns : goal.returns
returns c = links_law
