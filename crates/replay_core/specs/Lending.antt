-- What a state ends as, where its track was lent.
use Rattle.std.specs.Borrow.{Lends, Fml, MutBor}
use Rattle.client_model.specs.contracts.track.Track.{the_row as track_row}
use Rattle.replay_core.specs.contracts.live.Live.{the_row as live_row}
use Rattle.replay_core.specs.contracts.told.Fresh.{the_row as fresh_row}
use Rattle.client_model.specs.declared.track.Track.{Track}
use Rattle.client_model.specs.meaning.States.{Living, Resuming}

-- the state with another track, and the same identifier
abbrev pub with_track : Living → Track → Living
with_track state track = record state { track = track }

-- once the borrow r ends, the state has the track that r shows last
abbrev pub LiveLends : MutBor Living → MutBor Track → Fml
LiveLends s r = Lends live_row track_row s r (with_track s.now)

-- the same on a session that answered an outcome
abbrev pub with_fresh_track : Resuming → Track → Resuming
with_fresh_track state track = record state { track = track }

abbrev pub FreshLends : MutBor Resuming → MutBor Track → Fml
FreshLends s r = Lends fresh_row track_row s r (with_fresh_track s.now)
