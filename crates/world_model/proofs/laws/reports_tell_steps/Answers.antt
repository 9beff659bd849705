use Rattle.world_model.proofs.script.KeptTalks.{reports_law}
use Rattle.world_model.proofs.laws.reports_tell_steps.Goals as goal

pub returns : goal.returns
returns c = reports_law
