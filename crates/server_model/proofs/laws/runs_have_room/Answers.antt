use Rattle.server_model.proofs.draws.RoomRuns.{runs_have_room}
use Rattle.server_model.proofs.laws.runs_have_room.Goals as goal

pub returns : goal.returns
returns c = runs_have_room
