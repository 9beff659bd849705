use Rattle.world_model.proofs.events.RunsFollowed.{runs_orderly}
use Rattle.world_model.proofs.laws.runs_are_orderly.Goals as goal

pub returns : goal.returns
returns c = runs_orderly c.orderly_is_kept.ensures
