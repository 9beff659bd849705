use Rattle.world_model.proofs.number.Blocks.{blocks_law}
use Rattle.world_model.proofs.laws.blocks_are_next.Goals as goal

pub returns : goal.returns
returns c = blocks_law
