use Rattle.world_model.proofs.hold.KeptHold.{idle_law}
use Rattle.world_model.proofs.laws.idle_connections_rest.Goals as goal

pub returns : goal.returns
returns c = idle_law
