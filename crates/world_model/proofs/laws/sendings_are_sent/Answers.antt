use Rattle.world_model.proofs.script.KeptSendings.{sendings_law}
use Rattle.world_model.proofs.laws.sendings_are_sent.Goals as goal

pub returns : goal.returns
returns c = sendings_law
