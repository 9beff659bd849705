use Rattle.world_model.proofs.finish.FinishEnds.{finish_falls as falls_law}
use Rattle.world_model.proofs.laws.finish_falls.Goals as goal

pub returns : goal.returns
returns c = falls_law
