use Rattle.run_laws.proofs.StoredHorizons.{horizons_stored}
use Rattle.run_laws.proofs.stored_laws.horizons_are_stored.Goals as goal

pub returns : goal.returns
returns c = horizons_stored
