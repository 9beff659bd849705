use Rattle.world_model.proofs.wire.KeptWire.{handled_law}
use Rattle.world_model.proofs.laws.items_fit_frames.Goals as goal

pub returns : goal.returns
returns c = handled_law
