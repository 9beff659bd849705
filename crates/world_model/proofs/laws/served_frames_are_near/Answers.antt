use Rattle.world_model.proofs.number.KeptNumber.{near_law}
use Rattle.world_model.proofs.laws.served_frames_are_near.Goals as goal

pub returns : goal.returns
returns c = near_law
