-- The plain items of a report have the calls that were served and that ran from outside.
use Rattle.std.proofs.Common.{◌≡◌, ℕ, ◌+◌, Bool, true, false, List, [], ◌∷◌, Some, refl, if◌then◌else◌}
use Rattle.std.specs.Prelude.{nat_lt}
use Rattle.std.specs.List.{list_all}
use Rattle.std.proofs.lemmas.Bool.{and_parts, and_from}
use Rattle.svc_values.specs.declared.call.Call.{Call}
use Rattle.svc_values.specs.declared.draw.Draw.{Draw}
use Rattle.svc_values.specs.declared.entry.SessionId.{SessionId}
use Rattle.svc_values.specs.meaning.Identifiers.{session_of}
use Rattle.outage_schedule.specs.declared.document.Document.{Document}
use Rattle.outage_schedule.specs.declared.event.Event.{Event}
use Rattle.outage_schedule.specs.declared.event.Event.TheVariants as event
use Rattle.outage_schedule.specs.declared.item.Item.{Item as Told}
use Rattle.outage_schedule.specs.declared.item.Item.TheVariants as item
use Rattle.outage_schedule.specs.declared.item.Served.{Served}
use Rattle.outage_schedule.specs.declared.note.Note.{Note}
use Rattle.outage_schedule.specs.declared.note.Note.TheVariants as note
use Rattle.outage_schedule.specs.declared.note.NoteRun.{NoteRun}
use Rattle.outage_schedule.specs.declared.report.Report.{Report}
use Rattle.run_clauses.specs.meaning.Moments.{Happened, HappenedAt, ServedItem, RanOutside, Asked, before_event, from_event, in_order, moment_of_item, moment_of_note, moments, moments_of_notes}
use Rattle.server_model.specs.meaning.Items.{Item, Did, Thing, Connected, Began, Called, MetBlock, CallStopped}
use Rattle.shown_clauses.specs.meaning.Fronts.{first_item, rest_items}
use Rattle.shown_clauses.specs.meaning.KeptDraws.{parts}
use Rattle.shown_clauses.specs.meaning.LegalItems.{all_did, calls_of, item_of, items_at, items_from, items_of, kept_if, things_of, after_moment}
use Rattle.shown_clauses.specs.meaning.KeptDraws.{is_marked_item}
use Rattle.shown_clauses.specs.meaning.Parts.{Part}
use Rattle.shown_clauses.specs.meaning.Places.{Front, Place, behind, first_front, reach, reach_from, reach_in, tick_at}
use Rattle.shown_clauses.specs.meaning.Things.{thing_of}
use Rattle.world_model.proofs.Offered.{append_all, one_all}
use Rattle.form_laws.specs.Laws.{event_passes, item_passes, outsides_pass, served_pass}

module _ (test : Call → Bool) where
  -- the call of a thing
  abbrev pub thing_passes : Thing → Bool
  thing_passes (Called replay kept called answers draws) = test called
  thing_passes (MetBlock replay called) = test called
  thing_passes (CallStopped replay called) = test called
  thing_passes _ = true

  abbrev pub plain_passes : Item → Bool
  plain_passes (Did event now session thing) = thing_passes thing
  plain_passes _ = true

  -- ---- moments

  abbrev happened_passes : Happened → Bool
  happened_passes (ServedItem session one) = item_passes test one
  happened_passes _ = true

  abbrev moment_passes : HappenedAt → Bool
  moment_passes moment = happened_passes moment.happened

  note_so : (event : ℕ) (one : Note) → list_all moment_passes (moment_of_note event one) ≡ true
  note_so event (note.Outside (Some ran)) = refl
  note_so event (note.Ask x (Some told)) = refl
  note_so event one = refl

  notes_so : (event : ℕ) (notes : List Note) → list_all moment_passes (moments_of_notes event notes) ≡ true
  notes_so event [] = refl
  notes_so event (first ∷ notes) = append_all moment_passes (moment_of_note event first) (moments_of_notes (event + 1) notes) (note_so event first) (notes_so (event + 1) notes)

  before_so : (event : ℕ) (all : List HappenedAt) → list_all moment_passes all ≡ true → list_all moment_passes (before_event event all) ≡ true
  before_so event [] pass = refl
  before_so event (moment ∷ all) pass = let both = and_parts (moment_passes moment) (list_all moment_passes all) pass in by (nat_lt moment.event event) both.0 (before_so event all both.1)
    where
      by : (earlier : Bool) → moment_passes moment ≡ true → list_all moment_passes (before_event event all) ≡ true → list_all moment_passes (if earlier then moment ∷ before_event event all else []) ≡ true
      by true here rest = and_from (moment_passes moment) (list_all moment_passes (before_event event all)) here rest
      by false here rest = refl

  from_so : (event : ℕ) (all : List HappenedAt) → list_all moment_passes all ≡ true → list_all moment_passes (from_event event all) ≡ true
  from_so event [] pass = refl
  from_so event (moment ∷ all) pass = by (nat_lt moment.event event) (from_so event all (and_parts (moment_passes moment) (list_all moment_passes all) pass).1)
    where
      by : (earlier : Bool) → list_all moment_passes (from_event event all) ≡ true → list_all moment_passes (if earlier then from_event event all else moment ∷ all) ≡ true
      by true rest = rest
      by false rest = pass

  in_order_so : (items : List Served) (notes : List HappenedAt) → list_all (λ one. item_passes test one.item) items ≡ true → list_all moment_passes notes ≡ true → list_all moment_passes (in_order items notes) ≡ true
  in_order_so [] notes items_pass notes_pass = notes_pass
  in_order_so (one ∷ items) notes items_pass notes_pass =
      let both = and_parts (item_passes test one.item) (list_all (λ other. item_passes test other.item) items) items_pass in
      append_all moment_passes (before_event one.event notes) (moment_of_item one ∷ in_order items (from_event one.event notes)) (before_so one.event notes notes_pass)
      (and_from (item_passes test one.item) (list_all moment_passes (in_order items (from_event one.event notes))) both.0
      (in_order_so items (from_event one.event notes) both.1 (from_so one.event notes notes_pass)))

  -- ---- the schedule from a front on

  abbrev ahead_passes : Front → Bool
  ahead_passes front = list_all (event_passes test) front.place.schedule

  rest_so : (schedule : List Event) → list_all (event_passes test) schedule ≡ true → list_all (event_passes test) (rest_items schedule) ≡ true
  rest_so [] all = refl
  rest_so (one ∷ schedule) all = (and_parts (event_passes test one) (list_all (event_passes test) schedule) all).1

  reach_from_so : (event : ℕ) (before : Bool) (first : Note) (notes : List Note) (place : Place) → list_all (event_passes test) place.schedule ≡ true → ahead_passes (reach_from event before first notes place) ≡ true
  reach_from_so event false first notes place all = all
  reach_from_so event true first [] place all = rest_so place.schedule all
  reach_from_so event true first (next ∷ notes) place all = reach_from_so event (nat_lt (place.event + 1) event) next notes (behind first place) (rest_so place.schedule all)

  reach_in_so : (event : ℕ) (notes : List Note) (place : Place) → list_all (event_passes test) place.schedule ≡ true → ahead_passes (reach_in event notes place) ≡ true
  reach_in_so event [] place all = all
  reach_in_so event (first ∷ notes) place all = reach_from_so event (nat_lt place.event event) first notes place all

  -- ---- items

  thing_so : (kept : List Draw) (one : Told) → item_passes test one ≡ true → thing_passes (thing_of kept one) ≡ true
  thing_so kept item.Connect here = refl
  thing_so kept (item.Begin settings) here = refl
  thing_so kept (item.Call replay call answers draws) here = here
  thing_so kept (item.Blocked call) here = here
  thing_so kept (item.Outcome x result) here = refl
  thing_so kept item.End here = refl
  thing_so kept item.Close here = refl
  thing_so kept (item.Refused cause) here = refl
  thing_so kept (item.CrashedCall replay call) here = here
  thing_so kept (item.CrashedOutcome x) here = refl

  things_so : (calls : List Call) (runs : List NoteRun) → list_all test calls ≡ true → list_all thing_passes (things_of calls runs) ≡ true
  things_so [] runs all = refl
  things_so (call ∷ calls) [] all = one_all thing_passes (MetBlock false call) (and_parts (test call) (list_all test calls) all).0
  things_so (call ∷ calls) (run ∷ runs) all =
      let both = and_parts (test call) (list_all test calls) all in and_from (test call) (list_all thing_passes (things_of calls runs)) both.0 (things_so calls runs both.1)

  did_so : (at now : ℕ) (session : SessionId) (things : List Thing) → list_all thing_passes things ≡ true → list_all plain_passes (all_did at now session things) ≡ true
  did_so at now session [] all = refl
  did_so at now session (thing ∷ things) all =
      let both = and_parts (thing_passes thing) (list_all thing_passes things) all in
      and_from (thing_passes thing) (list_all plain_passes (all_did at now session things)) both.0 (did_so at now session things both.1)

  calls_so : (schedule : List Event) → list_all (event_passes test) schedule ≡ true → list_all test (calls_of (first_item schedule)) ≡ true
  calls_so [] all = refl
  calls_so (event.Outside calls ∷ schedule) all = (and_parts (list_all test calls) (list_all (event_passes test) schedule) all).0
  calls_so (one ∷ schedule) all = refl

  moment_so : (parts : List Part) (front : Front) (at now : ℕ) (happened : Happened) → ahead_passes front ≡ true → happened_passes happened ≡ true → list_all plain_passes (items_at parts front at now happened) ≡ true
  moment_so parts front at now (ServedItem session one) ahead here =
      let served : Served = record { event = at; session = session; item = one } in
      one_all plain_passes (item_of parts front now served) (thing_so (kept_if (is_marked_item one) parts front served) one here)
  moment_so parts front at now (RanOutside ran) ahead here =
      did_so at now (session_of ran.ltxid) (Connected ∷ Began [] ∷ things_of (calls_of (first_item front.place.schedule)) ran.runs)
      (things_so (calls_of (first_item front.place.schedule)) ran.runs (calls_so front.place.schedule ahead))
  moment_so parts front at now (Asked x told) ahead here = refl

  after_so : (front : Front) (at : ℕ) (happened : Happened) → ahead_passes front ≡ true → ahead_passes (after_moment front at happened) ≡ true
  after_so front at (ServedItem session one) ahead = ahead
  after_so front at (RanOutside ran) ahead = ahead
  after_so front at (Asked x told) ahead = ahead

  from_front_so : (parts : List Part) (notes : List Note) (front : Front) (all : List HappenedAt) → ahead_passes front ≡ true → list_all moment_passes all ≡ true
      → list_all plain_passes (items_from parts notes front all) ≡ true
  from_front_so parts notes front [] ahead pass = refl
  from_front_so parts notes front (moment ∷ more) ahead pass =
      let both = and_parts (moment_passes moment) (list_all moment_passes more) pass in
      let here : Front = reach moment.event front in
      let ahead_here : ahead_passes here ≡ true = reach_in_so moment.event front.notes front.place ahead in
      append_all plain_passes (items_at parts here moment.event (tick_at notes here moment.event) moment.happened) (items_from parts notes (after_moment here moment.event moment.happened) more)
      (moment_so parts here moment.event (tick_at notes here moment.event) moment.happened ahead_here both.0)
      (from_front_so parts notes (after_moment here moment.event moment.happened) more (after_so here moment.event moment.happened ahead_here) both.1)

  pub items_so : (document : Document) (report : Report) → outsides_pass test document ≡ true → served_pass test report ≡ true → list_all plain_passes (items_of document report) ≡ true
  items_so document report outsides served =
      from_front_so (parts document report) report.notes (first_front document report) (moments report) outsides (in_order_so report.served (moments_of_notes 1 report.notes) served (notes_so 1 report.notes))
