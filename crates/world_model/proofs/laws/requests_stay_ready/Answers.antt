use Rattle.world_model.proofs.script.KeptReady.{ready_law}
use Rattle.world_model.proofs.laws.requests_stay_ready.Goals as goal

pub returns : goal.returns
returns c = ready_law
