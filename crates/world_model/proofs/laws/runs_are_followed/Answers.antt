use Rattle.world_model.proofs.events.RunsFollowed.{runs_followed}
use Rattle.world_model.proofs.laws.runs_are_followed.Goals as goal

pub returns : goal.returns
returns c = runs_followed
