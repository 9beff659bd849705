-- The items that are read off the report of a run are those of its service's history, but for their
-- numbers and what calls without the mark bring.
use Rattle.std.proofs.Common.{◌≡◌, refl, sym, ap, subst, ◌∙◌, append_assoc, append-nil, ℕ, ◌+◌, ◌<◌, true, length, List, [], ◌∷◌, ◌++◌, map, arith}
use Rattle.std.specs.Prelude.{IsTrue}
use Rattle.std.proofs.lemmas.Bool.{and_from}
use Rattle.std.proofs.lemmas.List.{length_push, map-append}
use Rattle.outage_schedule.specs.declared.document.Document.{Document}
use Rattle.outage_schedule.specs.declared.event.Event.{Event}
use Rattle.outage_schedule.specs.declared.item.Served.{Served}
use Rattle.outage_schedule.specs.declared.note.Note.{Note}
use Rattle.server_model.specs.meaning.Items.{Item}
use Rattle.server_model.specs.Runs.{Happened}
use Rattle.server_model.specs.Seen.{Seen}
use Rattle.run_clauses.specs.meaning.Moments.{moments_of_notes, in_order}
use Rattle.shown_clauses.specs.meaning.Fronts.{first_item, rest_items}
use Rattle.shown_clauses.specs.meaning.LegalItems.{outside_fits, outsides_fit, items_from}
use Rattle.shown_clauses.specs.meaning.Parts.{Part}
use Rattle.shown_clauses.specs.meaning.Places.{Front}
use Rattle.world_model.specs.OneEvent.{OneEvent}
use Rattle.world_model.specs.Reached.{Reached, Begins, GoesOn, traced_start}
use Rattle.world_model.specs.records.Ready.{all_requests_right}
use Rattle.invariant_laws.specs.SameLaws.{HoldsInRuns}
use Rattle.world_model.specs.Traced.{Traced}
use Rattle.shown_laws.specs.Growth.{RunsAreCounted, RunsGrow}
use Rattle.shown_laws.specs.Unblocked.{serve_unblocked}
use Rattle.shown_laws.proofs.Offered.{at_event, Does, follow_does}
use Rattle.legal_laws.specs.MarksTold.{TellsMarked}
use Rattle.legal_laws.specs.Points.{Point, IsPoint, next_point, LeadsTo, IsThere, Onward}
use Rattle.legal_laws.proofs.BareItems.{bare_items}
use Rattle.legal_laws.proofs.EventsDid.{by_note}
use Rattle.legal_laws.proofs.EventsTold.{OneTold, AreBrought, bare_of, does_tell, items_now}
use Rattle.legal_laws.proofs.FinishPoints.{FitsSchedule}
use Rattle.legal_laws.proofs.FrontMoves.{rest_behind, one_further, front_told, Comes}
use Rattle.legal_laws.proofs.MomentsOrder.{AreLater}

-- WHAT IS STILL TO COME ---------------------------------------------------------------------------

module _ (document : Document) (last : Point) where
  abbrev pub events_left : (p : Point) → LeadsTo document last p → List Event
  events_left _ IsThere = []
  events_left _ (Onward p event note more after new one point leads) = event ∷ events_left (next_point p event note more after new) leads

  abbrev pub notes_left : (p : Point) → LeadsTo document last p → List Note
  notes_left _ IsThere = []
  notes_left _ (Onward p event note more after new one point leads) = note ∷ notes_left (next_point p event note more after new) leads

  abbrev pub items_left : (p : Point) → LeadsTo document last p → List Served
  items_left _ IsThere = []
  items_left _ (Onward p event note more after new one point leads) = more ++ items_left (next_point p event note more after new) leads

  pub events_joined : (p : Point) (leads : LeadsTo document last p) → last.events ≡ p.events ++ events_left p leads
  events_joined _ IsThere = sym (append-nil last.events)
  events_joined _ (Onward p event note more after new one point leads) =
      events_joined (next_point p event note more after new) leads ∙ append_assoc p.events (event ∷ []) (events_left (next_point p event note more after new) leads)

  pub notes_joined : (p : Point) (leads : LeadsTo document last p) → last.notes ≡ p.notes ++ notes_left p leads
  notes_joined _ IsThere = sym (append-nil last.notes)
  notes_joined _ (Onward p event note more after new one point leads) =
      notes_joined (next_point p event note more after new) leads ∙ append_assoc p.notes (note ∷ []) (notes_left (next_point p event note more after new) leads)

  pub items_joined : (p : Point) (leads : LeadsTo document last p) → last.items ≡ p.items ++ items_left p leads
  items_joined _ IsThere = sym (append-nil last.items)
  items_joined _ (Onward p event note more after new one point leads) =
      items_joined (next_point p event note more after new) leads ∙ append_assoc p.items more (items_left (next_point p event note more after new) leads)

-- a run that came to a point came there from a start
pub record FromStart (document : Document) (last : Point) : Type 0 where
  pub seen : Seen
  pub start : IsPoint document (record { events = []; notes = []; items = []; seen = seen; t = traced_start document })
  pub empty : seen.history ≡ []
  pub leads : LeadsTo document last (record { events = []; notes = []; items = []; seen = seen; t = traced_start document })

pub from_start : (document : Document) (last : Point) (events : List Event) (notes : List Note) (items : List Served) (seen : Seen) (t : Traced) → Reached document events notes items seen t
    → LeadsTo document last (record { events = events; notes = notes; items = items; seen = seen; t = t }) → FromStart document last
from_start document last _ _ _ _ _ (Begins seen start history horizon coupled) leads = record { seen = seen; start = Begins seen start history horizon coupled; empty = history; leads = leads }
from_start document last _ _ _ _ _ (GoesOn events notes items more before after old new event note reached one forgets) leads =
    from_start document last events notes items before old reached
    (Onward (record { events = events; notes = notes; items = items; seen = before; t = old }) event note more after new one (GoesOn events notes items more before after old new event note reached one forgets) leads)

-- What is told from a point on is what the service did from there on, and the notes of runs from
-- outside fit the schedule.
pub record Tells (document : Document) (last : Point) (parts : List Part) (all : List Note) (p : Point) (leads : LeadsTo document last p) (front : Front) : Type 0 where
  pub history : map bare_of last.seen.history ≡ map bare_of p.seen.history ++ bare_items (items_from parts all front (in_order (items_left document last p leads) (moments_of_notes (length p.notes + 1) (notes_left document last p leads))))
  pub fits : outsides_fit (rest_behind p.notes document.schedule) (notes_left document last p leads) ≡ true

-- EVENT BY EVENT ----------------------------------------------------------------------------------

later_more : (event : ℕ) (more left : List Served) → AreLater event more → AreLater event left → AreLater event (more ++ left)
later_more event [] left now later = later
later_more event (one ∷ more) left now later = (now.0, later_more event more left now.1 later)

still_later : (early event : ℕ) (items : List Served) → early < event → AreLater event items → AreLater early items
still_later early event [] below later = tt
still_later early event (one ∷ items) below later = let here : early < one.event = omega (arith, below, later.0) in (here, still_later early event items below later.1)

module _ (document : Document) (last : Point) (calls : IsTrue (all_requests_right document)) (counted : RunsAreCounted) (grow : RunsGrow) (unblocked : HoldsInRuns serve_unblocked) where
  -- each item that is still to come is of a later event
  all_later : (p : Point) (leads : LeadsTo document last p) → IsPoint document p → AreLater (length p.notes) (items_left document last p leads)
  all_later _ IsThere point = tt
  all_later _ (Onward p event note more after new one point leads) here =
      let count = counted document p.events p.notes p.items p.seen p.t here in
      let below : length p.notes < length (p.notes ++ note ∷ []) = let push : length (p.notes ++ note ∷ []) ≡ length p.notes + 1 = length_push p.notes note in omega (arith, push) in
      later_more (length p.notes) more (items_left document last (next_point p event note more after new) leads)
      (items_now p.notes p.t.machine count.events p.t.setting note more new.machine (follow_does p.t.setting p.t.machine event note more new.machine one.follows))
      (still_later (length p.notes) (length (p.notes ++ note ∷ [])) _ below (all_later (next_point p event note more after new) leads point))

  module _ (parts : List Part) (all : List Note) (marked : TellsMarked document last parts) where
    -- what is told of a call with the mark is what its frame brings
    brought : (p : Point) (event : Event) (note : Note) (more : List Served) (after : Seen) (new : Traced) → IsPoint document p → OneEvent p.seen p.t event note more [] after new
        → IsPoint document (next_point p event note more after new) → LeadsTo document last (next_point p event note more after new) → AreBrought parts p.notes p.items p.t.machine more
    brought p event note more after new here one point leads connection frame served is at ordinary kept call brings marks =
        marked p served kept here (record {
          event = event;
          note = note;
          after = after;
          new = new;
          happens = subst (λ (items : List Served). OneEvent p.seen p.t event note items [] after new) is one;
          point = subst (λ (items : List Served). IsPoint document (next_point p event note items after new)) is point;
          leads = subst (λ (items : List Served). LeadsTo document last (next_point p event note items after new)) is leads;
          number = connection;
          front = frame;
          there = at;
          call = call;
          brings = brings;
          ordinary = ordinary;
          marked = marks;
        })

    pub tells_all : (p : Point) (leads : LeadsTo document last p) → IsPoint document p → (front : Front) → Comes front (front_told document.schedule p.notes p.items (notes_left document last p leads)) (length p.notes)
        → FitsSchedule (rest_behind p.notes document.schedule) (events_left document last p leads) → Tells document last parts all p leads front
    tells_all _ IsThere here front comes fits = record { history = sym (append-nil (map bare_of last.seen.history)); fits = refl }
    tells_all _ (Onward p event note more after new one point leads) here front comes fits =
        let next : Point = next_point p event note more after new in
        let count = counted document p.events p.notes p.items p.seen p.t here in
        let others : List Note = notes_left document last next leads in
        let left : List Served = items_left document last next leads in
        let push : length (p.notes ++ note ∷ []) ≡ length p.notes + 1 = length_push p.notes note in
        let follows : Does p.t.setting (at_event p.t.machine) note more new.machine = follow_does p.t.setting p.t.machine event note more new.machine one.follows in
        let grown = (grow document p.events p.notes p.items more p.seen after p.t new event note here one).seen in
        let told : OneTold parts all document.schedule p.notes p.items note more others left front one.happened =
        does_tell parts all document.schedule p.notes p.items others left p.t.machine count.events count.ticks (subst (λ (n : ℕ). AreLater n left) push (all_later next leads point)) front p.t.setting event note more new.machine one.happened follows
        (by_note p.t.setting p.t.machine new.machine more event note one.happened one.follows one.did) comes grown fits.0 (brought p event note more after new here one point leads) (unblocked document next.events next.notes next.items after new calls point) in
        let rest : Tells document last parts all next leads told.next =
        tells_all next leads point told.next (subst (λ (n : ℕ). Comes told.next (front_told document.schedule next.notes next.items others) n) (sym push) told.comes)
        (subst (λ (schedule : List Event). FitsSchedule schedule (events_left document last next leads)) (one_further p.notes note document.schedule) fits.1) in
        let behind : List Item = items_from parts all told.next (in_order left (moments_of_notes ((length p.notes + 1) + 1) others)) in
        record {
          history =
              rest.history
              ∙ ap (λ (n : ℕ). map bare_of after.history ++ bare_items (items_from parts all told.next (in_order left (moments_of_notes (n + 1) others)))) push
              ∙ ap (λ (history : List Happened). map bare_of history ++ bare_items behind) one.history
              ∙ ap (λ (front : List Item). front ++ bare_items behind) (map-append bare_of p.seen.history one.happened ∙ ap (λ (more : List Item). map bare_of p.seen.history ++ more) (sym told.same))
              ∙ append_assoc (map bare_of p.seen.history) (bare_items told.now) (bare_items behind)
              ∙ ap (λ (more : List Item). map bare_of p.seen.history ++ more) (sym (map-append _ told.now behind) ∙ sym (ap bare_items told.split));
          fits =
              and_from (outside_fits (first_item (rest_behind p.notes document.schedule)) note) (outsides_fit (rest_items (rest_behind p.notes document.schedule)) others) told.fits
              (ap (λ (schedule : List Event). outsides_fit schedule others) (one_further p.notes note document.schedule) ∙ rest.fits);
        }
