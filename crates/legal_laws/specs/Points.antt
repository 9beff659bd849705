-- Where a run has come to, and the way from there to where it comes to later, event by event.
use Rattle.std.specs.Prelude.{List, [], ◌∷◌, ◌++◌}
use Rattle.outage_schedule.specs.declared.document.Document.{Document}
use Rattle.outage_schedule.specs.declared.event.Event.{Event}
use Rattle.outage_schedule.specs.declared.item.Served.{Served}
use Rattle.outage_schedule.specs.declared.note.Note.{Note}
use Rattle.server_model.specs.Seen.{Seen}
use Rattle.world_model.specs.OneEvent.{OneEvent}
use Rattle.world_model.specs.Reached.{Reached}
use Rattle.world_model.specs.Traced.{Traced}

-- the events so far, those of the finish among them, with their notes and all that was served, and
-- the state that they led to
pub record Point : Type 0 where
  pub events : List Event
  pub notes : List Note
  pub items : List Served
  pub seen : Seen
  pub t : Traced

-- a run of the document comes there
abbrev pub IsPoint : Document → Point → Type 0
IsPoint document p = Reached document p.events p.notes p.items p.seen p.t

-- behind one event more
abbrev pub next_point : Point → Event → Note → List Served → Seen → Traced → Point
next_point p event note more after new = record {
  events = p.events ++ event ∷ [];
  notes = p.notes ++ note ∷ [];
  items = p.items ++ more;
  seen = after;
  t = new;
}

-- from there it comes to the last point
pub data LeadsTo (document : Document) (last : Point) : Point → Type 0 where
  IsThere : LeadsTo document last last
  Onward : (p : Point) (event : Event) (note : Note) (more : List Served) (after : Seen)
      (new : Traced) → OneEvent p.seen p.t event note more [] after new
      → IsPoint document (next_point p event note more after new)
      → LeadsTo document last (next_point p event note more after new) → LeadsTo document last p
