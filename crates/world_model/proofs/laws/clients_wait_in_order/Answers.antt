use Rattle.world_model.proofs.hold.KeptQueue.{queue_law}
use Rattle.world_model.proofs.laws.clients_wait_in_order.Goals as goal

pub returns : goal.returns
returns c = queue_law
