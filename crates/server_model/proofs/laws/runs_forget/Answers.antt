use Rattle.server_model.proofs.Forgetting.{runs_forget}
use Rattle.server_model.proofs.laws.runs_forget.Goals as goal

pub returns : goal.returns
returns c = runs_forget
