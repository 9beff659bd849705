-- What a run's service did, for its judgement: the plain items of a report, one for each frame that
-- was served, each call that was run outside and each identifier that was asked, in the order of
-- events. Each frame is the one that stands first on its connection, where the walk over the events
-- has come.
use Rattle.std.specs.Prelude.{◌+◌, Bool, false, List, [], ◌∷◌, ◌++◌, map, Option, Some, if◌then◌else◌}
use Rattle.std.specs.Option.{option_map_or}
use Rattle.svc_values.specs.declared.call.Call.{Call}
use Rattle.svc_values.specs.declared.draw.Draw.{Draw}
use Rattle.outage_schedule.specs.declared.document.Document.{Document}
use Rattle.outage_schedule.specs.declared.event.Event.{Event}
use Rattle.outage_schedule.specs.declared.event.Event.TheVariants as event
use Rattle.outage_schedule.specs.declared.item.Served.{Served}
use Rattle.outage_schedule.specs.declared.note.Note.{Note}
use Rattle.outage_schedule.specs.declared.note.Note.TheVariants as note
use Rattle.outage_schedule.specs.declared.note.NoteRun.{NoteRun}
use Rattle.outage_schedule.specs.declared.note.OutsideNote.{OutsideNote}
use Rattle.outage_schedule.specs.declared.report.Report.{Report}
use Rattle.run_clauses.specs.meaning.ServiceBase.{service_base}
use Rattle.server_model.specs.meaning.Fresh.{drawn_anew, fresh_new}
use Rattle.server_model.specs.meaning.Items.{Thing, Connected, Began, Called, MetBlock, Item, Did, thing_of, asked_of}
use Rattle.server_model.specs.meaning.Legal.{legal}
use Rattle.server_model.specs.meaning.Outcomes.{Says}
use Rattle.server_model.specs.meaning.Walk.{walk_of}
use Rattle.world_model.specs.meaning.Finishing.{Place, AtServer, next_finish}
use Rattle.world_model.specs.meaning.Machines.{Machine, next_session, start_of}
use Rattle.world_model.specs.meaning.ServiceDid.{front_telling}
use Rattle.world_model.specs.meaning.Serving.{Front, front_at, outcome_frame}
use Rattle.world_model.specs.meaning.Settings.{Setting, setting_of}
use Rattle.world_model.specs.meaning.Walking.{Walked, follow, walk}

-- ONE EVENT ---------------------------------------------------------------------------------------

-- the frame that stands first was served, as the first item says
abbrev pub front_items : Machine → Option Front → List Served → List Item
front_items m (Some front) (served ∷ items) =
    Did m.event m.tick served.session (thing_of front.first.frame (front_telling front served)) ∷ []
front_items m _ _ = []

-- The calls that were run outside, with what they came to; and where the run ended before them the
-- next call, which met a block.
abbrev pub things_outside : List Call → List NoteRun → List Thing
things_outside [] runs = []
things_outside (call ∷ calls) [] = MetBlock false call ∷ []
things_outside (call ∷ calls) (run ∷ runs) =
    Called false [] call run.answers run.draws ∷ things_outside calls runs

-- in a session of their own, which begins without settings
abbrev pub outside_items : Machine → List Call → OutsideNote → List Item
outside_items m calls ran = map (Did m.event m.tick (next_session m.server))
    (Connected ∷ Began [] ∷ things_outside calls ran.runs)

-- what this event did (its number is the machine's)
abbrev pub event_items : Machine → Event → Note → List Served → List Item
event_items m (event.Serve connection) note items =
    front_items m (front_at m.links connection) items
event_items m (event.Crash connection after pick) note items =
    if m.server.is_up then front_items m (front_at m.links connection) items else []
event_items m (event.Outside calls) (note.Outside (Some ran)) items = outside_items m calls ran
event_items m (event.Ask x) (note.Ask named (Some answer)) items =
    asked_of m.event x (Says (outcome_frame answer)) ∷ []
event_items m _ _ items = []

abbrev pub next_items : Machine → Event → Note → List Served → List Item
next_items m event note items = event_items (record m { event = m.event + 1 }) event note items

-- ALL EVENTS --------------------------------------------------------------------------------------

-- along the walk over these events
abbrev pub walk_items : Setting → Machine → List Event → List Note → List Served → List Item
walk_items setting m [] notes items = []
walk_items setting m (event ∷ events) [] items = []
walk_items setting m (event ∷ events) (note ∷ notes) items =
    next_items m event note items ++ option_map_or
    (λ next. walk_items setting next.0 events notes next.1) (follow setting m event note items)
    []

-- along the walk over the finish
abbrev pub finish_items : Setting → Machine → Place → List Note → List Served → List Item
finish_items setting m place [] items = []
finish_items setting m place (note ∷ notes) items =
    option_map_or (λ made. next_items m made.0 note items
    ++ option_map_or (λ next. finish_items setting next.0 made.1 notes next.1)
    (follow setting m made.0 note items) []) (next_finish m place) []

abbrev pub items_with : Document → List Note → List Served → List Item
items_with document notes items =
    let setting : Setting = setting_of document in
    walk_items setting (start_of document) document.schedule notes items
    ++ option_map_or (λ (walked : Walked). finish_items setting walked.machine AtServer walked.notes
    walked.items) (walk setting (start_of document) document.schedule notes items) []

-- the items of a report
abbrev pub judged_items : Document → Report → List Item
judged_items document report = items_with document report.notes report.served

-- THE JUDGEMENT -----------------------------------------------------------------------------------

-- What was served is legal: each call is answered as it means on what was committed before it and
-- its own transaction; a commit comes exactly where nothing that its transaction read has changed;
-- the entries and alerts are those of the commits and lines; what is drawn anew is the next value.
abbrev pub is_legal : Document → Report → Bool
is_legal document report = legal (service_base document) (judged_items document report)
    report.entries report.alerts

-- no value was drawn anew twice
abbrev pub is_fresh_new : Document → Report → Bool
is_fresh_new document report = fresh_new (service_base document) (judged_items document report)
    report.entries

-- the values that were drawn anew, those of stopped calls among them whose entry stands
abbrev pub drawn_in : Document → Report → List Draw
drawn_in document report = drawn_anew (service_base document)
    (walk_of (service_base document) report.entries) (judged_items document report)
