use Rattle.world_model.proofs.hold.KeptHold.{by_held_law}
use Rattle.world_model.proofs.laws.requests_go_by_held.Goals as goal

pub returns : goal.returns
returns c = by_held_law
