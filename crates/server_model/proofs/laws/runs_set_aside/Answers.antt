use Rattle.server_model.proofs.draws.BelowEnds.{runs_set_aside}
use Rattle.server_model.proofs.laws.runs_set_aside.Goals as goal

pub returns : goal.returns
returns c = runs_set_aside
