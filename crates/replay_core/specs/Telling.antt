-- What an answer's type tells.
use Rattle.client_model.specs.meaning.Told as plain
use Rattle.replay_core.specs.declared.told.Told.{Told}
use Rattle.replay_core.specs.declared.told.Told.TheVariants as told

-- the same on plain states
abbrev pub as_told : Told → plain.Told
as_told (told.Committed fresh) = plain.Committed fresh
as_told (told.Incomplete over) = plain.Incomplete over
as_told (told.Disabled over why) = plain.Disabled over why
as_told (told.Replays over) = plain.Replays over
as_told (told.Late over) = plain.Late over
as_told (told.Replay replaying) = plain.Replay replaying
