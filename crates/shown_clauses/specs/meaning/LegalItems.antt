-- The plain items of a report: one for each served item and each note of `ask`, and for a note of
-- `outside` one for each thing that its session did.
use Rattle.std.specs.Prelude.{ℕ, ◌&&◌, Bool, true, false, nat_le, List, [], ◌∷◌, ◌++◌, length, Option, Some}
use Rattle.svc_values.specs.declared.draw.Draw.{Draw}
use Rattle.svc_values.specs.declared.call.Call.{Call}
use Rattle.outage_schedule.specs.declared.event.Event.{Event}
use Rattle.outage_schedule.specs.declared.event.Event.TheVariants as event
use Rattle.svc_values.specs.declared.entry.SessionId.{SessionId}
use Rattle.outage_schedule.specs.declared.item.Served.{Served}
use Rattle.outage_schedule.specs.declared.note.NoteRun.{NoteRun}
use Rattle.outage_schedule.specs.declared.note.Note.{Note}
use Rattle.outage_schedule.specs.declared.note.Note.TheVariants as note
use Rattle.outage_schedule.specs.declared.document.Document.{Document}
use Rattle.outage_schedule.specs.declared.report.Report.{Report}
use Rattle.svc_values.specs.meaning.Identifiers.{session_of}
use Rattle.run_clauses.specs.meaning.Moments.{HappenedAt, Happened, ServedItem, RanOutside, Asked, moments}
use Rattle.shown_clauses.specs.meaning.Fronts.{first_item, rest_items}
use Rattle.shown_clauses.specs.meaning.Parts.{Part}
use Rattle.server_model.specs.meaning.Items.{Thing, Connected, Began, Called, MetBlock, Item, Did, AskTold}
use Rattle.shown_clauses.specs.meaning.Places.{Front, first_front, reach, tick_at, after_served}
use Rattle.shown_clauses.specs.meaning.KeptDraws.{parts, is_marked_item, kept_at}
use Rattle.shown_clauses.specs.meaning.Things.{outcome_of, thing_of}

-- an item of this event, with the ticks before it
abbrev pub did_at : ℕ → ℕ → SessionId → Thing → Item
did_at at now session thing = Did at now (record {
  incarnation = session.incarnation;
  session = session.session;
}) thing

-- ---- a served item

-- A call with the mark brings what it was shown with, and every other item brings nothing.
abbrev pub kept_if : Bool → List Part → Front → Served → List Draw
kept_if true parts front one = kept_at parts front.place.seen one.session
kept_if false parts front one = []

abbrev pub item_of : List Part → Front → ℕ → Served → Item
item_of parts front now one = did_at one.event now one.session
    (thing_of (kept_if (is_marked_item one.item) parts front one) one.item)

-- ---- a run from outside

-- the calls of an `outside` event
abbrev pub calls_of : Option Event → List Call
calls_of (Some (event.Outside calls)) = calls
calls_of _ = []

-- Its calls without the mark, each with what was run; and where it ended early the next call, which
-- met a block.
abbrev pub things_of : List Call → List NoteRun → List Thing
things_of [] runs = []
things_of (call ∷ calls) [] = MetBlock false call ∷ []
things_of (call ∷ calls) (run ∷ runs) = Called false [] call run.answers run.draws
    ∷ things_of calls runs

abbrev pub all_did : ℕ → ℕ → SessionId → List Thing → List Item
all_did at now session [] = []
all_did at now session (thing ∷ things) =
    did_at at now session thing ∷ all_did at now session things

-- what its session did: it begins without settings
abbrev pub outside_items : ℕ → ℕ → SessionId → List Call → List NoteRun → List Item
outside_items at now session calls runs =
    all_did at now session (Connected ∷ Began [] ∷ things_of calls runs)

-- The note has one pair for each call of its event, or fewer.
abbrev pub runs_fit : Option Event → List NoteRun → Bool
runs_fit (Some (event.Outside calls)) runs = nat_le (length runs) (length calls)
runs_fit _ runs = false

abbrev pub outside_fits : Option Event → Note → Bool
outside_fits one (note.Outside (Some ran)) = runs_fit one ran.runs
outside_fits one _ = true

-- each note, beside the event of the schedule that it is of
abbrev pub outsides_fit : List Event → List Note → Bool
outsides_fit schedule [] = true
outsides_fit schedule (first ∷ notes) = outside_fits (first_item schedule) first
    && outsides_fit (rest_items schedule) notes

-- ---- all of them

-- the items of a moment that the front has reached
abbrev pub items_at : List Part → Front → ℕ → ℕ → Happened → List Item
items_at parts front at now (ServedItem session served) = item_of parts front now (record {
  event = at;
  session = session;
  item = served;
}) ∷ []
items_at parts front at now (RanOutside ran) =
    outside_items at now (session_of ran.ltxid) (calls_of (first_item front.place.schedule))
    ran.runs
items_at parts front at now (Asked x told) = AskTold at x (outcome_of told) ∷ []

abbrev pub after_moment : Front → ℕ → Happened → Front
after_moment front at (ServedItem session served) = after_served front (record {
  event = at;
  session = session;
  item = served;
})
after_moment front at (RanOutside ran) = front
after_moment front at (Asked x told) = front

-- of the moments behind a front; `notes` are all notes
abbrev pub items_from : List Part → List Note → Front → List HappenedAt → List Item
items_from parts notes front [] = []
items_from parts notes front (moment ∷ more) =
    let here : Front = reach moment.event front in
    items_at parts here moment.event (tick_at notes here moment.event) moment.happened
    ++ items_from parts notes (after_moment here moment.event moment.happened) more

-- The items of a report, in the order of events.
abbrev pub items_of : Document → Report → List Item
items_of document report = items_from (parts document report) report.notes
    (first_front document report) (moments report)
