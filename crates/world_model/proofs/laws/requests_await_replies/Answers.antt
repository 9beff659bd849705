use Rattle.world_model.proofs.hold.KeptHold.{held_law}
use Rattle.world_model.proofs.laws.requests_await_replies.Goals as goal

pub returns : goal.returns
returns c = held_law
