use Rattle.world_model.proofs.number.KeptNumber.{told_law}
use Rattle.world_model.proofs.laws.last_identifier_is_held.Goals as goal

pub returns : goal.returns
returns c = told_law
