use Rattle.invariant_laws.proofs.sendings.KeptFates.{fates_law}
use Rattle.invariant_laws.proofs.once_laws.sendings_have_fates.Goals as goal

pub returns : goal.returns
returns c = fates_law
