-- Where a session is in its life, as the plain server has it.
use Rattle.server_session.specs.declared.life.Life.{Life as Kept}
use Rattle.server_session.specs.declared.life.Life.TheVariants as kept
use Rattle.server_model.specs.Sessions.{Life, New, Idle, Begun, Ended}

abbrev pub life_of : Kept → Life
life_of kept.New = New
life_of kept.Idle = Idle
life_of kept.Begun = Begun
life_of kept.Ended = Ended
