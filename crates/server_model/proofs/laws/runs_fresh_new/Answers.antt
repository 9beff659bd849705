use Rattle.server_model.proofs.draws.FreshRuns.{runs_fresh_new}
use Rattle.server_model.proofs.laws.runs_fresh_new.Goals as goal

pub returns : goal.returns
returns c = runs_fresh_new
