use Rattle.run_laws.proofs.StoredHorizons.{incarnations_stored}
use Rattle.run_laws.proofs.stored_laws.incarnations_are_stored.Goals as goal

pub returns : goal.returns
returns c = incarnations_stored
