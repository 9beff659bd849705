-- The finish of a run ends.
use Rattle.std.specs.Prelude.{◌≡◌, ◌<◌, Bool, true, false, List, Some}
use Rattle.outage_schedule.specs.declared.event.Event.{Event}
use Rattle.outage_schedule.specs.declared.note.Note.{Note}
use Rattle.outage_schedule.specs.declared.item.Served.{Served}
use Rattle.server_model.specs.Seen.{Seen}
use Rattle.world_model.specs.Traced.{Traced}
use Rattle.world_model.specs.Orderly.{Orderly}
use Rattle.world_model.specs.OneEvent.{OneEvent}
use Rattle.world_model.specs.meaning.Finishing.{Place, AtServer, next_finish}
use Rattle.world_model.specs.Remaining.{remaining}

abbrev pub is_at_server : Place → Bool
is_at_server AtServer = true
is_at_server place = false

-- The state is orderly, and once the finish has opened the server it is up. (So it may begin
-- wherever a schedule ends.)
pub record CanFinish (t : Traced) (place : Place) : Type 0 where
  pub orderly : Orderly t
  pub up : is_at_server place ≡ false → t.machine.server.is_up ≡ true

-- each event of the finish leaves less of it
abbrev pub FinishFalls : Type 0
FinishFalls =
    (before after : Seen) (old new : Traced) (event : Event) (note : Note)
    (items left : List Served) (place next : Place)
    → OneEvent before old event note items left after new → CanFinish old place
    → next_finish old.machine place ≡ Some (event, next)
    → remaining new.setting new.machine next < remaining old.setting old.machine place

-- and the next one may follow it
abbrev pub FinishGoesOn : Type 0
FinishGoesOn =
    (before after : Seen) (old new : Traced) (event : Event) (note : Note)
    (items left : List Served) (place next : Place)
    → OneEvent before old event note items left after new → CanFinish old place
    → next_finish old.machine place ≡ Some (event, next) → CanFinish new next

-- it may begin wherever the state is orderly: behind the schedule it is
abbrev pub FinishBegins : Type 0
FinishBegins = (t : Traced) → Orderly t → CanFinish t AtServer
