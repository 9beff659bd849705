use Rattle.world_model.proofs.number.KeptAhead.{near_law, counted_law, ahead_law}
use Rattle.world_model.proofs.laws.sessions_are_near.Goals as goal

pub returns : goal.returns
returns c = record { near = near_law c.runs_number.ensures.numbers; counted = counted_law c.runs_number.ensures.numbers; ahead = ahead_law c.runs_number.ensures.numbers }
