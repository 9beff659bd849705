use Rattle.invariant_laws.proofs.sendings.KeptPlaced.{placed_law}
use Rattle.invariant_laws.proofs.once_laws.sendings_are_of_scripts.Goals as goal

pub returns : goal.returns
returns c = placed_law
