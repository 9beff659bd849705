use Rattle.world_model.proofs.hold.KeptHold.{opened_law}
use Rattle.world_model.proofs.laws.pool_counts_connections.Goals as goal

pub returns : goal.returns
returns c = opened_law
