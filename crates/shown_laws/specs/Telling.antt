-- What the notes and the items of a run so far tell: its events, and what they come to.
use Rattle.std.specs.Prelude.{ℕ, ◌+◌, List, fold}
use Rattle.outage_schedule.specs.declared.item.Served.{Served}
use Rattle.outage_schedule.specs.declared.note.Note.{Note}
use Rattle.shown_clauses.specs.meaning.Happenings.{Happening, tick_after, happenings_from}
use Rattle.shown_clauses.specs.meaning.Links.{Seen, nothing_seen, after_happening}
use Rattle.shown_clauses.specs.meaning.Steps.{Step, steps_at, steps_from}

-- the events
abbrev pub events_told : List Note → List Served → List Happening
events_told notes items = happenings_from 1 0 notes items

-- the connections behind them
abbrev pub seen_after : Seen → List Happening → Seen
seen_after seen happenings = fold after_happening seen happenings

abbrev pub seen_told : List Note → List Served → Seen
seen_told notes items = seen_after nothing_seen (events_told notes items)

-- the steps of all clients
abbrev pub steps_told : List Note → List Served → List Step
steps_told notes items = steps_from nothing_seen (events_told notes items)

-- the ticks among the notes
abbrev pub ticks_told : List Note → ℕ
ticks_told notes = fold tick_after 0 notes

-- an event behind so many events and ticks
abbrev pub event_told : ℕ → ℕ → Note → List Served → Happening
event_told before ticks note items = record {
  event = before + 1;
  tick = ticks;
  noted = note;
  items = items;
}

-- the steps of an event
abbrev pub steps_in : Seen → Happening → List Step
steps_in seen happening = steps_at seen happening happening.noted
