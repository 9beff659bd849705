use Rattle.invariant_laws.proofs.entries.KeptNoted.{noted_law}
use Rattle.invariant_laws.proofs.once_laws.sendings_are_noted.Goals as goal

pub returns : goal.returns
returns c = noted_law
