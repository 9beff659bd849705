-- The limits that notes keep to.
use Rattle.std.specs.Prelude.{◌&&◌, Bool, true, Option}
use Rattle.std.specs.List.{list_all}
use Rattle.std.specs.Option.{option_map_or}
use Rattle.outage_schedule.specs.declared.note.GoNote.{GoNote}
use Rattle.outage_schedule.specs.declared.note.GoNote.TheVariants as did
use Rattle.outage_schedule.specs.declared.note.Reached.{Reached}
use Rattle.outage_schedule.specs.declared.note.AskResult.{AskResult}
use Rattle.outage_schedule.specs.declared.note.AskResult.TheVariants as told
use Rattle.outage_schedule.specs.declared.note.NoteRun.{NoteRun}
use Rattle.outage_schedule.specs.declared.note.OutsideNote.{OutsideNote}
use Rattle.outage_schedule.specs.declared.note.Note.{Note}
use Rattle.outage_schedule.specs.declared.note.Note.TheVariants as note
use Rattle.report_limits.specs.meaning.Limits.{fits_u64, fits_identifier, fits_replies}

abbrev pub fits_step : GoNote → Bool
fits_step (did.Open k) = fits_u64 k
fits_step (did.Lent k) = fits_u64 k
fits_step (did.Took k sent) = fits_u64 k && fits_u64 sent
fits_step (did.Lost k) = fits_u64 k
fits_step _ = true

abbrev pub fits_told : AskResult → Bool
fits_told (told.ServerAhead next) = fits_u64 next
fits_told (told.ClientAhead next) = fits_u64 next
fits_told (told.Forgotten horizon) = fits_u64 horizon
fits_told _ = true

abbrev pub fits_reached : Reached → Bool
fits_reached bytes = fits_u64 bytes.up && fits_u64 bytes.down

abbrev pub fits_run : NoteRun → Bool
fits_run run = fits_replies run.answers run.draws

abbrev pub fits_outside : OutsideNote → Bool
fits_outside ran = fits_identifier ran.ltxid && list_all fits_run ran.runs

-- where it is there
abbrev pub if_there : {A : Type 0} → (A → Bool) → Option A → Bool
if_there test o = option_map_or test o true

abbrev pub fits_note : Note → Bool
fits_note (note.Go client step) = fits_u64 client && fits_step step
fits_note (note.Serve k name) = fits_u64 k
fits_note (note.Cut k bytes) = fits_u64 k && if_there fits_reached bytes
fits_note (note.Reap k reaped) = fits_u64 k
fits_note (note.Crash k down) = fits_u64 k
fits_note (note.Up incarnation) = if_there fits_u64 incarnation
fits_note (note.UpCrash made) = true
fits_note note.Tick = true
fits_note (note.Outside ran) = if_there fits_outside ran
fits_note (note.Ask x result) = fits_identifier x && if_there fits_told result
fits_note (note.Drain closed) = fits_u64 closed
