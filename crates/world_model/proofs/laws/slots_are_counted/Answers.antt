use Rattle.world_model.proofs.hold.KeptHold.{lent_law}
use Rattle.world_model.proofs.laws.slots_are_counted.Goals as goal

pub returns : goal.returns
returns c = lent_law
