-- An event of a run without its clients: machine and service go on together.
use Rattle.std.specs.Prelude.{◌≡◌, ℕ, ◌+◌, ◌*◌, ◌≤◌, true, false, List, [], None}
use Rattle.outage_schedule.specs.declared.event.Event.{Event}
use Rattle.outage_schedule.specs.declared.note.Note.{Note}
use Rattle.outage_schedule.specs.declared.item.Served.{Served}
use Rattle.server_model.specs.Seen.{ServiceState, Seen}
use Rattle.world_model.specs.Traced.{Traced}
use Rattle.world_model.specs.Coupled.{Coupled}
use Rattle.world_model.specs.Forgets.{Forgets}
use Rattle.world_model.specs.Orderly.{Orderly}
use Rattle.world_model.specs.OneEvent.{OneEvent}
use Rattle.world_core.specs.declared.traffic.Traffic.{Traffic}
use Rattle.world_core.specs.Underway.{IsUnderway}

-- It may be called, and no call of it is stopped. Where it is up it was opened since its last
-- crash, and where it is down it may be opened.
pub record IsReady (state : ServiceState) : Type 0 where
  pub live : state.is_spent ≡ false
  pub quiet : state.is_quiet ≡ true
  pub unstopped : state.stop ≡ None
  pub opened : state.is_up ≡ true → state.is_opened ≡ true
  pub settled : state.is_up ≡ false → state.is_settled ≡ true

-- The service may be seen so, it is ready, this is underway as the machine is, and the machine
-- stands orderly. An event makes at most four calls on the service, and passes at most a tick.
pub record IsAt (sees : Seen → Type 0) (traffic : Traffic) (seen : Seen) (t : Traced) : Type 0 where
  pub seen_so : sees seen
  pub ready : IsReady seen.state
  pub coupled : Coupled seen t
  pub underway : IsUnderway traffic t.machine
  pub orderly : Orderly t
  pub calls : seen.state.calls ≤ 4 * t.machine.event + 4
  pub ticks : t.machine.tick ≤ t.machine.event

-- the service and the traffic stand somewhere
abbrev pub IsSomewhere : (Seen → Type 0) → Traffic → Type 0
IsSomewhere sees traffic = (seen : Seen) × ((t : Traced) × IsAt sees traffic seen t)

-- The event was made with this note and these items, and machine and service stand behind it. An
-- opening asked for this horizon.
pub record Made (below : ℕ) (seen : Seen) (t : Traced) (sees_later : Seen → Type 0)
    (after : Traffic) (event : Event) (note : Note) (items : List Served) : Type 0 where
  pub seen_later : Seen
  pub later : Traced
  pub made : OneEvent seen t event note items [] seen_later later
  pub forgets : Forgets below note seen.state.store seen_later.state.store
  pub place : IsAt sees_later after seen_later later

-- whatever was seen and wherever the machine stood, the event was made, and an opening asked for
-- this horizon
abbrev pub MakesBelow : ℕ → (Seen → Type 0) → Traffic → (Seen → Type 0) → Traffic → Event → Note
    → List Served → Type 0
MakesBelow below sees before sees_later after event note items = (seen : Seen) (t : Traced)
    → IsAt sees before seen t → Made below seen t sees_later after event note items

-- an event that opens nothing, whichever horizon is wanted
abbrev pub Makes : (Seen → Type 0) → Traffic → (Seen → Type 0) → Traffic → Event → Note
    → List Served → Type 0
Makes sees before sees_later after event note items = (below : ℕ)
    → MakesBelow below sees before sees_later after event note items
