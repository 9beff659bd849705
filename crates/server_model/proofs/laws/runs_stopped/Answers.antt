use Rattle.server_model.proofs.StoppedBefore.{runs_stopped}
use Rattle.server_model.proofs.laws.runs_stopped.Goals as goal

pub returns : goal.returns
returns c = runs_stopped
