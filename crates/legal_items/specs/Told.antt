-- The items of a report by its moments alone, each with the ticks before its event and what it
-- brings.
use Rattle.std.specs.Prelude.{ℕ, ◌-◌, List, [], ◌∷◌, ◌++◌, map, drop, slice_get, slice_index}
use Rattle.std.specs.Option.{option_map_or}
use Rattle.svc_values.specs.declared.draw.Draw.{Draw}
use Rattle.svc_values.specs.meaning.Identifiers.{session_of}
use Rattle.outage_schedule.specs.declared.event.Event.{Event}
use Rattle.outage_schedule.specs.declared.note.Note.{Note}
use Rattle.run_clauses.specs.meaning.Moments.{HappenedAt, Happened, ServedItem, RanOutside, Asked}
use Rattle.server_model.specs.meaning.Items.{Item, AskTold}
use Rattle.report_moments.specs.declared.moments.At.{At}
use Rattle.shown_clauses.specs.meaning.Fronts.{first_item}
use Rattle.shown_clauses.specs.meaning.Happenings.{tick_after}
use Rattle.shown_clauses.specs.meaning.LegalItems.{did_at, calls_of, outside_items}
use Rattle.shown_clauses.specs.meaning.Things.{outcome_of, thing_of}

-- the ticks before each event of these notes
abbrev pub ticks_from : ℕ → List Note → List ℕ
ticks_from tick [] = []
ticks_from tick (first ∷ notes) = tick ∷ ticks_from (tick_after tick first) notes

-- The items of what happened at an event. (`tick` are the ticks before it, `kept` is what a served
-- item brings.)
abbrev pub items_then : List Event → ℕ → List Draw → ℕ → Happened → List Item
items_then schedule tick kept event (ServedItem session served) =
    did_at event tick session (thing_of kept served) ∷ []
items_then schedule tick kept event (RanOutside ran) =
    outside_items event tick (session_of ran.ltxid) (calls_of (slice_get schedule (event - 1)))
    ran.runs
items_then schedule tick kept event (Asked x told) = AskTold event x (outcome_of told) ∷ []

-- how many served items that is
abbrev pub served_count : Happened → ℕ
served_count (ServedItem session served) = 1
served_count (RanOutside ran) = 0
served_count (Asked x told) = 0

-- what the first of them brings
abbrev pub first_kept : List (List Draw) → List Draw
first_kept kept = option_map_or (λ draws. draws) (first_item kept) []

abbrev pub at_place : At → List Item → List (At × Item)
at_place at items = map (λ item. (at, item)) items

-- Of moments, the served ones of which bring so much in turn. (`ticks` are those before each
-- event.) Each item has its moment's place.
abbrev pub items_told : List Event → List ℕ → List (List Draw) → List (At × HappenedAt)
    → List (At × Item)
items_told schedule ticks kept [] = []
items_told schedule ticks kept (one ∷ more) =
    at_place one.0 (items_then schedule (slice_index ticks (one.1.event - 1)) (first_kept kept)
    one.1.event one.1.happened)
    ++ items_told schedule ticks (drop (served_count one.1.happened) kept) more
