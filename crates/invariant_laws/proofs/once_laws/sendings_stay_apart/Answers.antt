use Rattle.invariant_laws.proofs.sendings.KeptApart.{apart_law}
use Rattle.invariant_laws.proofs.once_laws.sendings_stay_apart.Goals as goal

pub returns : goal.returns
returns c = apart_law
