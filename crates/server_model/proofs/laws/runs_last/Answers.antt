use Rattle.server_model.proofs.Tells.{runs_last}
use Rattle.server_model.proofs.laws.runs_last.Goals as goal

pub returns : goal.returns
returns c = runs_last
