-- Where served items may stand: their events rise, and each names a note at which such an item may
-- stand.
use Rattle.std.specs.Prelude.{ℕ, ◌-◌, ◌&&◌, Bool, true, false, nat_lt, List, Option, Some, slice_get}
use Rattle.std.specs.Option.{option_map_or}
use Rattle.outage_schedule.specs.declared.note.FrameName.{FrameName}
use Rattle.outage_schedule.specs.declared.note.FrameName.TheVariants as frame
use Rattle.outage_schedule.specs.declared.note.Note.{Note}
use Rattle.outage_schedule.specs.declared.note.Note.TheVariants as note
use Rattle.told_reports.specs.declared.place.ServedWord.{ServedWord}
use Rattle.told_reports.specs.declared.place.ServedWord.TheVariants as word

-- A `serve` of a frame has the item of that frame; a refused item may be of any. A crashed item is
-- of no `serve`.
abbrev pub is_of_frame : FrameName → ServedWord → Bool
is_of_frame frame.Connect word.Connect = true
is_of_frame frame.Begin word.Begin = true
is_of_frame frame.Call word.Call = true
is_of_frame frame.Call word.Blocked = true
is_of_frame frame.Outcome word.Outcome = true
is_of_frame frame.End word.End = true
is_of_frame frame.Close word.Close = true
is_of_frame _ word.Refused = true
is_of_frame _ _ = false

-- A `crash` of a server that was up has any item.
abbrev pub may_stand : Note → ServedWord → Bool
may_stand (note.Serve k (Some name)) w = is_of_frame name w
may_stand (note.Crash k false) w = true
may_stand _ w = false

-- the note of an event
abbrev pub note_of : List Note → ℕ → Option Note
note_of notes event = slice_get notes (event - 1)

-- an item of this word may stand at this event, behind an item at the last one
abbrev pub fits_event : List Note → ServedWord → ℕ → ℕ → Bool
fits_event notes w last event =
    nat_lt last event && option_map_or (λ one. may_stand one w) (note_of notes event) false
