-- A place in the notes of a run, and the way over them: ticks, the schedule's events, connections.
use Rattle.std.specs.Prelude.{ℕ, zero, suc, ◌+◌, ◌-◌, ◌==◌, Bool, true, false, nat_lt, List, [], ◌∷◌}
use Rattle.outage_schedule.specs.declared.event.Event.{Event}
use Rattle.outage_schedule.specs.declared.item.Served.{Served}
use Rattle.outage_schedule.specs.declared.note.Note.{Note}
use Rattle.outage_schedule.specs.declared.note.Note.TheVariants as note
use Rattle.outage_schedule.specs.declared.document.Document.{Document}
use Rattle.outage_schedule.specs.declared.report.Report.{Report}
use Rattle.shown_clauses.specs.meaning.Fronts.{rest_items}
use Rattle.shown_clauses.specs.meaning.Happenings.{tick_after}
use Rattle.shown_clauses.specs.meaning.Links.{Seen, nothing_seen, after_note, after_item}

-- Before an event: its number, the ticks before it, the schedule from it on, the connections.
pub record Place : Type 0 where
  pub event : ℕ
  pub tick : ℕ
  pub schedule : List Event
  pub seen : Seen

-- a place, with the notes from it on
pub record Front : Type 0 where
  pub place : Place
  pub notes : List Note

abbrev pub first_front : Document → Report → Front
first_front document report =
    record {
      place = record { event = 1; tick = 0; schedule = document.schedule; seen = nothing_seen };
      notes = report.notes;
    }

abbrev pub with_note : ℕ → Note → Seen → Seen
with_note event first seen = record seen { links = after_note event first seen.links }

-- behind an event with this note
abbrev pub behind : Note → Place → Place
behind first place =
    record {
      event = place.event + 1;
      tick = tick_after place.tick first;
      schedule = rest_items place.schedule;
      seen = with_note place.event first place.seen;
    }

-- On to an event. (Told whether the place is before it.)
abbrev pub reach_from : ℕ → Bool → Note → List Note → Place → Front
reach_from event false first notes place = record { place = place; notes = first ∷ notes }
reach_from event true first [] place = record { place = behind first place; notes = [] }
reach_from event true first (next ∷ notes) place =
    reach_from event (nat_lt (place.event + 1) event) next notes (behind first place)

abbrev pub reach_in : ℕ → List Note → Place → Front
reach_in event [] place = record { place = place; notes = [] }
reach_in event (first ∷ notes) place = reach_from event (nat_lt place.event event) first notes place

abbrev pub reach : ℕ → Front → Front
reach event front = reach_in event front.notes front.place

-- ---- ticks

abbrev pub ticks_in : ℕ → ℕ → List Note → ℕ
ticks_in zero tick notes = tick
ticks_in (suc events) tick [] = tick
ticks_in (suc events) tick (first ∷ notes) = ticks_in events (tick_after tick first) notes

abbrev pub tick_if : Bool → ℕ → ℕ → List Note → ℕ
tick_if true tick event notes = ticks_in (event - 1) 0 notes
tick_if false tick event notes = tick

-- `tick(e)` of an event that the front has reached. (One behind which it is already has it of the
-- notes from the first on.)
abbrev pub tick_at : List Note → Front → ℕ → ℕ
tick_at notes front event = tick_if (nat_lt event front.place.event) front.place.tick event notes

-- ---- items

-- The note of an event that the front has reached; a note that names no connection where there is
-- none.
abbrev pub noted_if : Bool → List Note → Note
noted_if true (first ∷ notes) = first
noted_if _ _ = note.Tick

abbrev pub noted_at : Front → ℕ → Note
noted_at front event = noted_if (front.place.event == event) front.notes

abbrev pub with_seen : Place → Seen → Place
with_seen place seen = record place { seen = seen }

-- the front after an item
abbrev pub after_served : Front → Served → Front
after_served front one =
    record {
      place = with_seen front.place (after_item one.event (noted_at front one.event)
          front.place.seen one);
      notes = front.notes;
    }
