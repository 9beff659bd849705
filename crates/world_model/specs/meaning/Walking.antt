-- The walk over the events of a schedule, each with its note and with the items that it served.
use Rattle.std.specs.Prelude.{◌+◌, List, [], ◌∷◌, Option, Some, None, option_map, option_and_then}
use Rattle.outage_schedule.specs.declared.event.Event.{Event}
use Rattle.outage_schedule.specs.declared.note.Note.{Note}
use Rattle.outage_schedule.specs.declared.item.Served.{Served}
use Rattle.world_model.specs.meaning.Settings.{Setting}
use Rattle.world_model.specs.meaning.Machines.{Machine}
use Rattle.world_model.specs.meaning.Matching.{Noted, Went, ServedOn, CutOff, Reaped, Crashed, Opened, OpeningStopped, Ticked, RanOutside, Asked, Drained, matched}
use Rattle.world_model.specs.meaning.Going.{follow_go}
use Rattle.world_model.specs.meaning.Serving.{follow_serve}
use Rattle.world_model.specs.meaning.Cutting.{follow_cut, follow_reap}
use Rattle.world_model.specs.meaning.Crashing.{follow_crash}
use Rattle.world_model.specs.meaning.Opening.{follow_up, follow_upcrash}
use Rattle.world_model.specs.meaning.Outside.{ticked, follow_outside, follow_ask, follow_drain}

-- where an event leads to, and the items that are left for later ones
abbrev pub After : Type 0
After = Option (Machine × List Served)

-- an event that serves nothing
abbrev pub leaving : List Served → Option Machine → After
leaving items next = option_map (λ m. (m, items)) next

-- one event, by its kind
abbrev pub by_kind : Setting → Machine → List Served → Noted → After
by_kind setting m items (Went client did) = leaving items (follow_go setting m client did)
by_kind setting m items (ServedOn connection frame) = follow_serve m connection frame items
by_kind setting m items (CutOff connection up down reached) =
    leaving items (follow_cut m connection up down reached)
by_kind setting m items (Reaped connection reaped) = leaving items (follow_reap m connection reaped)
by_kind setting m items (Crashed connection after failover down) =
    follow_crash m connection after failover down items
by_kind setting m items (Opened incarnation) = leaving items (follow_up m incarnation)
by_kind setting m items (OpeningStopped made) = leaving items (follow_upcrash m made)
by_kind setting m items Ticked = leaving items (Some (ticked m))
by_kind setting m items (RanOutside ran) = leaving items (follow_outside m ran)
by_kind setting m items (Asked ltxid told) = leaving items (follow_ask m ltxid told)
by_kind setting m items (Drained closed) = leaving items (follow_drain m closed)

-- Events are numbered from 1.
abbrev pub follow : Setting → Machine → Event → Note → List Served → After
follow setting m event note items = option_and_then
    (by_kind setting (record m { event = m.event + 1 }) items) (matched event note)

-- where the walk has come to, with the notes and items that are left
pub record Walked : Type 0 where
  pub machine : Machine
  pub notes : List Note
  pub items : List Served

abbrev pub walk : Setting → Machine → List Event → List Note → List Served → Option Walked
walk setting m [] notes items = Some (record { machine = m; notes = notes; items = items })
walk setting m (event ∷ events) [] items = None
walk setting m (event ∷ events) (note ∷ notes) items =
    option_and_then (λ next. walk setting next.0 events notes next.1)
    (follow setting m event note items)
