use Rattle.world_model.proofs.hold.KeptHold.{had_law}
use Rattle.world_model.proofs.laws.connections_are_had.Goals as goal

pub returns : goal.returns
returns c = had_law
