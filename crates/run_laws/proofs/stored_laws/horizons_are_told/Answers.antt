use Rattle.run_laws.proofs.StoredHorizons.{horizons_told}
use Rattle.run_laws.proofs.stored_laws.horizons_are_told.Goals as goal

pub returns : goal.returns
returns c = horizons_told
