use Rattle.world_model.proofs.script.OwnedKept.{owned_law}
use Rattle.world_model.proofs.laws.frames_are_of_holders.Goals as goal

pub returns : goal.returns
returns c = owned_law
