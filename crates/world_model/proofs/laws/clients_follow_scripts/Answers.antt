use Rattle.world_model.proofs.script.ScriptsKept.{scripts_law}
use Rattle.world_model.proofs.laws.clients_follow_scripts.Goals as goal

pub returns : goal.returns
returns c = scripts_law
