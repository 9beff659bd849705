-- The events of a run, each with what the report tells of it.
use Rattle.std.specs.Prelude.{ℕ, ◌+◌, ◌==◌, Bool, nat_le, List, [], ◌∷◌, filter}
use Rattle.outage_schedule.specs.declared.item.Served.{Served}
use Rattle.outage_schedule.specs.declared.note.Note.{Note}
use Rattle.outage_schedule.specs.declared.note.Note.TheVariants as note
use Rattle.outage_schedule.specs.declared.report.Report.{Report}
use Rattle.shown_clauses.specs.meaning.Fronts.{front_of, rest_of}

-- An event: its number, `tick(e)`, its note, and the items that name it.
pub record Happening : Type 0 where
  pub event : ℕ
  pub tick : ℕ
  pub noted : Note
  pub items : List Served

-- `tick(e)` is the number of ticks before event e.
abbrev pub tick_after : ℕ → Note → ℕ
tick_after tick note.Tick = tick + 1
tick_after tick _ = tick

abbrev pub is_up_to : ℕ → Served → Bool
is_up_to event one = nat_le one.event event

-- Of items in the order of events, those of this event. (One that stands behind an item of a later
-- event is of none.)
abbrev pub items_at : ℕ → List Served → List Served
items_at event items = filter (λ one. one.event == event) (front_of (is_up_to event) items)

-- of the notes, the first of which is that of this event, at this tick
abbrev pub happenings_from : ℕ → ℕ → List Note → List Served → List Happening
happenings_from event tick [] items = []
happenings_from event tick (first ∷ notes) items =
    record { event = event; tick = tick; noted = first; items = items_at event items }
    ∷ happenings_from (event + 1) (tick_after tick first) notes (rest_of (is_up_to event) items)

abbrev pub happenings : Report → List Happening
happenings report = happenings_from 1 0 report.notes report.served
