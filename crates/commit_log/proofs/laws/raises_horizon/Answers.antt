use Rattle.commit_log.proofs.Raising.{raises_horizon}
use Rattle.commit_log.proofs.laws.raises_horizon.Goals as goal

pub returns : goal.returns
returns c = raises_horizon
