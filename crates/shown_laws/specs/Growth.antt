-- What a run tells grows event by event, as the machine goes.
use Rattle.std.specs.Prelude.{◌≡◌, List, [], ◌∷◌, ◌++◌, length}
use Rattle.outage_schedule.specs.declared.document.Document.{Document}
use Rattle.outage_schedule.specs.declared.event.Event.{Event}
use Rattle.outage_schedule.specs.declared.item.Served.{Served}
use Rattle.outage_schedule.specs.declared.note.Note.{Note}
use Rattle.server_model.specs.Seen.{Seen}
use Rattle.shown_clauses.specs.meaning.Happenings.{Happening}
use Rattle.shown_clauses.specs.meaning.Links.{after_happening}
use Rattle.world_model.specs.meaning.Finishing.{Place}
use Rattle.world_model.specs.meaning.Machines.{Machine}
use Rattle.world_model.specs.OneEvent.{OneEvent}
use Rattle.world_model.specs.Reached.{Reached, IsFinishing}
use Rattle.world_model.specs.Traced.{Traced}
use Rattle.shown_laws.specs.Telling.{events_told, seen_told, steps_told, ticks_told, event_told, steps_in}

-- the next event of this machine, as it is told
abbrev pub next_told : Machine → Note → List Served → Happening
next_told m note items = event_told m.event m.tick note items

-- One event more is told behind those before it, with the number and the tick that the machine
-- gives it, and what they come to grows by it.
pub record GrowsBy (notes : List Note) (items : List Served) (m : Machine) (note : Note)
    (more : List Served) : Type 0 where
  pub events : events_told (notes ++ note ∷ []) (items ++ more) ≡ events_told notes items
      ++ next_told m note more ∷ []
  pub seen : seen_told (notes ++ note ∷ []) (items ++ more) ≡ after_happening
      (seen_told notes items) (next_told m note more)
  pub steps : steps_told (notes ++ note ∷ []) (items ++ more) ≡ steps_told notes items ++ steps_in
      (seen_told notes items) (next_told m note more)

-- as many events as notes, and as many ticks as are among them
pub record IsCounted (notes : List Note) (m : Machine) : Type 0 where
  pub events : m.event ≡ length notes
  pub ticks : m.tick ≡ ticks_told notes

-- wherever a run has come to
abbrev pub RunsAreCounted : Type 0
RunsAreCounted = (document : Document) (events : List Event) (notes : List Note)
    (items : List Served) (seen : Seen) (t : Traced) → Reached document events notes items seen t
    → IsCounted notes t.machine

abbrev pub RunsGrow : Type 0
RunsGrow =
    (document : Document) (events : List Event) (notes : List Note) (items more : List Served)
    (before after : Seen) (old new : Traced) (event : Event) (note : Note)
    → Reached document events notes items before old
    → OneEvent before old event note more [] after new
    → GrowsBy notes items old.machine note more

-- and wherever its finish has
abbrev pub FinishesAreCounted : Type 0
FinishesAreCounted = (document : Document) (place : Place) (notes : List Note) (items : List Served)
    (seen : Seen) (t : Traced) → IsFinishing document place notes items seen t
    → IsCounted notes t.machine

abbrev pub FinishesGrow : Type 0
FinishesGrow =
    (document : Document) (place : Place) (notes : List Note) (items more : List Served)
    (before after : Seen) (old new : Traced) (event : Event) (note : Note)
    → IsFinishing document place notes items before old
    → OneEvent before old event note more [] after new
    → GrowsBy notes items old.machine note more
