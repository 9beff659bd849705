use Rattle.world_model.proofs.script.KeptDraws.{draws_law}
use Rattle.world_model.proofs.laws.marked_calls_carry_draws.Goals as goal

pub returns : goal.returns
returns c = draws_law
