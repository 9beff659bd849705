use Rattle.invariant_laws.proofs.sendings.KeptKnown.{known_law}
use Rattle.invariant_laws.proofs.once_laws.sendings_are_known.Goals as goal

pub returns : goal.returns
returns c = known_law
