use Rattle.mutable_values.proofs.Staying.{keeps_room}
use Rattle.mutable_values.proofs.laws.keeps_room.Goals as goal

pub returns : goal.returns
returns c = keeps_room
