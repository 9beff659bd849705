-- Outcomes by which a call is shown.
use Rattle.std.specs.Prelude.{Bool, false}
use Rattle.outage_schedule.specs.declared.note.AskResult.{AskResult}
use Rattle.outage_schedule.specs.declared.note.AskResult.TheVariants as told

-- it is told to be committed and completed
abbrev pub tells_completed : AskResult → Bool
tells_completed (told.Committed completed) = completed
tells_completed _ = false
