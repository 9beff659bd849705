-- What a served item repeats is what it brings, seen from the front that its event reaches.
use Rattle.std.proofs.Common.{◌≡◌, refl, sym, ap, subst, ◌∙◌, append-nil, append_assoc, ℕ, ◌+◌, ◌<◌, ◌≤◌, Bool, true, false, List, [], ◌∷◌, ◌++◌, map, fold, Option, Some, None, option_map, if◌then◌else◌, arith}
use Rattle.std.specs.Prelude.{nat_lt, option_and_then}
use Rattle.std.specs.Option.{option_map_or}
use Rattle.std.proofs.lemmas.Bool.{lt-ltb, le-ltb, eq-eqb}
use Rattle.std.proofs.lemmas.List.{map-append}
use Rattle.svc_values.specs.declared.draw.Draw.{Draw}
use Rattle.outage_schedule.specs.declared.event.Event.{Event}
use Rattle.outage_schedule.specs.declared.item.Served.{Served}
use Rattle.outage_schedule.specs.declared.note.Note.{Note}
use Rattle.outage_schedule.specs.declared.note.Note.TheVariants as note
use Rattle.outage_schedule.specs.declared.document.Document.{Document}
use Rattle.outage_schedule.specs.declared.report.Report.{Report}
use Rattle.run_clauses.specs.meaning.Moments.{HappenedAt, moment_of_note, moments_of_notes, moment_of_item, before_event, from_event, in_order, moments}
use Rattle.shown_clauses.specs.meaning.Fronts.{rest_items}
use Rattle.shown_clauses.specs.meaning.Happenings.{tick_after}
use Rattle.shown_clauses.specs.meaning.Links.{Link, Seen, Turn, Acquired, nothing_seen, link_of_session, after_item}
use Rattle.shown_clauses.specs.meaning.Steps.{Step as ClientStep}
use Rattle.shown_clauses.specs.meaning.Parts.{Part}
use Rattle.shown_clauses.specs.meaning.KeptDraws.{parts, is_marked_item, place_in, kept_since, kept_in_turn, kept_on_link}
use Rattle.shown_clauses.specs.meaning.LegalItems.{kept_if, after_moment}
use Rattle.shown_clauses.specs.meaning.Places.{Place, Front, first_front, behind, reach_from, reach, noted_if, after_served}
use Rattle.told_reports.specs.Keeping.{IsTold}
use Rattle.report_story.specs.Kept.{kept_by, kept_here, kept_from}
use Rattle.report_story.specs.Passing.{Repeated, repeated_in, repeated_if, repeated_by, Passed, pass, passed_by}
use Rattle.report_story.specs.Plain.{plain_link, plain_seen}
use Rattle.report_story.specs.Brought.{brought}
use Rattle.report_story.proofs.Fitting.{fits, AreBehind, Step, Here, Apart, step_of, none_left}
use Rattle.report_story.proofs.Plainly.{session_plain}
use Rattle.report_story.proofs.Walked.{at, noted_seen, made, pass_apart, pass_here, fit_all}

-- ---- what an item repeats

repeated_brings : (parts : List Part) (link : Option Link) → brought parts (option_and_then (λ (one : Link). option_and_then repeated_in one.turn) (option_map plain_link link)) ≡ option_map_or (kept_on_link parts) link []
repeated_brings parts None = refl
repeated_brings parts (Some link) = by link.turn
  where
    acquired_brings : (turn : Turn) (acquired : Option Acquired) → brought parts (option_map (λ (one : Acquired). record { acquired = one; place = place_in turn }) acquired) ≡ option_map_or (kept_since parts (place_in turn)) acquired []
    acquired_brings turn None = refl
    acquired_brings turn (Some one) = refl

    by : (turn : Option Turn) → brought parts (option_and_then repeated_in turn) ≡ option_map_or (kept_in_turn parts) turn []
    by None = refl
    by (Some turn) = acquired_brings turn turn.acquired

one_brings : (parts : List Part) (place : Place) (notes : List Note) (one : Served) → brought parts (repeated_by (plain_seen place.seen) one) ≡ kept_by parts (record { place = place; notes = notes }) one
one_brings parts place notes one = by (is_marked_item one.item)
  where
    by : (marked : Bool) → brought parts (repeated_if marked (plain_seen place.seen) one.session) ≡ kept_if marked parts (record { place = place; notes = notes }) one
    by true =
        ap (λ (link : Option Link). brought parts (option_and_then (λ (one : Link). option_and_then repeated_in one.turn) link)) (session_plain one.session place.seen.links)
        ∙ repeated_brings parts (link_of_session one.session place.seen.links)
    by false = refl

-- ---- fronts

abbrev Stays : ℕ → Place → List Note → Type 0
Stays event place notes = reach event (record { place = place; notes = notes }) ≡ record { place = place; notes = notes }

stays : (event : ℕ) (place : Place) (notes : List Note) → place.event ≡ event → Stays event place notes
stays event place [] same = refl
stays event place (first ∷ notes) same = ap (λ (test : Bool). reach_from event test first notes place) (le-ltb place.event event (omega (arith, same)))

passes : (event : ℕ) (place : Place) (first : Note) (notes : List Note) → place.event < event → reach event (record { place = place; notes = first ∷ notes }) ≡ reach event (record { place = behind first place; notes = notes })
passes event place first [] below = ap (λ (test : Bool). reach_from event test first [] place) (lt-ltb place.event event below)
passes event place first (next ∷ notes) below = ap (λ (test : Bool). reach_from event test first (next ∷ notes) place) (lt-ltb place.event event below)

-- each moment is of an event behind this one
abbrev Later : ℕ → List HappenedAt → Type 0
Later event [] = Unit {0}
Later event (moment ∷ more) = event < moment.event

later_front : (parts : List Part) (place : Place) (first : Note) (notes : List Note) (more : List HappenedAt) → Later place.event more
    → kept_from parts (record { place = place; notes = first ∷ notes }) more ≡ kept_from parts (record { place = behind first place; notes = notes }) more
later_front parts place first notes [] later = refl
later_front parts place first notes (moment ∷ more) later =
    ap (λ (here : Front). kept_here parts here moment.event moment.happened ++ kept_from parts (after_moment here moment.event moment.happened) more) (passes moment.event place first notes later)

-- ---- moments

later_notes : (event first : ℕ) (notes : List Note) → event < first → Later event (moments_of_notes first notes)
later_notes event first [] below = tt
later_notes event first (note.Outside (Some ran) ∷ notes) below = below
later_notes event first (note.Ask x (Some told) ∷ notes) below = below
later_notes event first (one ∷ notes) below = let next : event < first + 1 = omega (arith, below) in later_notes event (first + 1) notes next

later_order : (event : ℕ) (items : List Served) (more : List HappenedAt) → AreBehind event items → Later event more → Later event (in_order items more)
later_order event [] more behind later = later
later_order event (one ∷ items) [] behind later = behind.0
later_order event (one ∷ items) (moment ∷ more) behind later = by (nat_lt moment.event one.event)
  where
    by : (test : Bool) → Later event ((if test then moment ∷ before_event one.event more else []) ++ moment_of_item one ∷ in_order items (if test then from_event one.event more else moment ∷ more))
    by true = later
    by false = behind.0

record NoneBefore (event : ℕ) (more : List HappenedAt) : Type 0 where
  before : before_event event more ≡ []
  from : from_event event more ≡ more

none_first : (event : ℕ) (moment : HappenedAt) (more : List HappenedAt) → event ≤ moment.event → NoneBefore event (moment ∷ more)
none_first event moment more most =
    let not_below : nat_lt moment.event event ≡ false = le-ltb moment.event event most in
    record {
      before = ap (λ (test : Bool). if test then moment ∷ before_event event more else []) not_below;
      from = ap (λ (test : Bool). if test then from_event event more else moment ∷ more) not_below;
    }

none_before : (event : ℕ) (more : List HappenedAt) → Later event more → NoneBefore event more
none_before event [] later = record { before = refl; from = refl }
none_before event (moment ∷ more) later = none_first event moment more (omega (arith, later))

-- an item at an event before all these moments
item_first : (one : Served) (items : List Served) (more : List HappenedAt) → Later one.event more → in_order (one ∷ items) more ≡ moment_of_item one ∷ in_order items more
item_first one items more later =
    let none : NoneBefore one.event more = none_before one.event more later in
    λ i. none.before i ++ moment_of_item one ∷ in_order items (none.from i)

-- a moment before all these items
moment_first : (moment : HappenedAt) (items : List Served) (more : List HappenedAt) → AreBehind moment.event items → in_order items (moment ∷ more) ≡ moment ∷ in_order items more
moment_first moment [] more behind = refl
moment_first moment (one ∷ items) more behind =
    let below : nat_lt moment.event one.event ≡ true = lt-ltb moment.event one.event behind.0 in
    λ i. (if below i then moment ∷ before_event one.event more else []) ++ moment_of_item one ∷ in_order items (if below i then from_event one.event more else moment ∷ more)

-- ---- a note of no item

-- what the moments of a note bring: nothing
note_brings : (parts : List Part) (event : ℕ) (place : Place) (noted : Note) (notes : List Note) (items : List Served) → place.event ≡ event → AreBehind event items
    → kept_from parts (record { place = place; notes = noted ∷ notes }) (in_order items (moment_of_note event noted ++ moments_of_notes (event + 1) notes))
    ≡ kept_from parts (record { place = behind noted place; notes = notes }) (in_order items (moments_of_notes (event + 1) notes))
note_brings parts event place noted notes items same behind_event = by noted
  where
    next : event < event + 1
    next = omega arith

    more : List HappenedAt
    more = moments_of_notes (event + 1) notes

    later : Later place.event (in_order items more)
    later = subst (λ (e : ℕ). Later e (in_order items more)) (sym same) (later_order event items more behind_event (later_notes event (event + 1) notes next))

    -- a moment that is no served item
    alone : (first : Note) (moment : HappenedAt) → moment.event ≡ event
        → kept_here parts (record { place = place; notes = first ∷ notes }) moment.event moment.happened ≡ []
        → after_moment (record { place = place; notes = first ∷ notes }) moment.event moment.happened ≡ record { place = place; notes = first ∷ notes }
        → kept_from parts (record { place = place; notes = first ∷ notes }) (in_order items (moment ∷ more)) ≡ kept_from parts (record { place = behind first place; notes = notes }) (in_order items more)
    alone first moment is none after =
        ap (kept_from parts (record { place = place; notes = first ∷ notes })) (moment_first moment items more (subst (λ (e : ℕ). AreBehind e items) (sym is) behind_event))
        ∙ (ap (λ (here : Front). kept_here parts here moment.event moment.happened ++ kept_from parts (after_moment here moment.event moment.happened) (in_order items more)) (stays moment.event place (first ∷ notes) (same ∙ sym is))
        ∙ ((λ i. none i ++ kept_from parts (after i) (in_order items more))
        ∙ later_front parts place first notes (in_order items more) later))

    by : (first : Note) → kept_from parts (record { place = place; notes = first ∷ notes }) (in_order items (moment_of_note event first ++ more)) ≡ kept_from parts (record { place = behind first place; notes = notes }) (in_order items more)
    by (note.Outside (Some ran)) = alone (note.Outside (Some ran)) _ refl refl refl
    by (note.Ask x (Some told)) = alone (note.Ask x (Some told)) _ refl refl refl
    by first = later_front parts place first notes (in_order items more) later

-- ---- all notes

abbrev front_at : ℕ → ℕ → List Event → Seen → List Note → Front
front_at event tick schedule seen notes = record { place = record { event = event; tick = tick; schedule = schedule; seen = seen }; notes = notes }

abbrev BroughtFrom : List Part → List Note → Type 0
BroughtFrom parts notes =
    (event last tick : ℕ) (schedule : List Event) (seen : Seen) (done : List ClientStep) (repeated : List (Option Repeated)) (left : List Served)
    → event ≡ last + 1 → fits event notes last left ≡ true
    → map (brought parts) (fold pass (at event seen done repeated left) notes).repeated
    ≡ map (brought parts) repeated ++ kept_from parts (front_at event tick schedule seen notes) (in_order left (moments_of_notes event notes))

brought_note : (parts : List Part) (noted : Note) (notes : List Note) → BroughtFrom parts notes → BroughtFrom parts (noted ∷ notes)
brought_note parts noted notes others event last tick schedule seen done repeated left next fit = by (step_of event last noted notes left next fit)
  where
    front : Front
    front = front_at event tick schedule seen (noted ∷ notes)

    Goal : List Served → Type 0
    Goal items =
        map (brought parts) (fold pass (at event seen done repeated items) (noted ∷ notes)).repeated
        ≡ map (brought parts) repeated ++ kept_from parts front (in_order items (moment_of_note event noted ++ moments_of_notes (event + 1) notes))

    served : (one : Served) (more : List Served) → one.event ≡ event → moment_of_note event noted ≡ [] → AreBehind event more
        → kept_from parts front (in_order (one ∷ more) (moment_of_note event noted ++ moments_of_notes (event + 1) notes))
        ≡ kept_by parts front one ∷ kept_from parts (front_at (event + 1) (tick_after tick noted) (rest_items schedule) (noted_seen event noted (after_item event noted seen one)) notes) (in_order more (moments_of_notes (event + 1) notes))
    served one more same still behind_event =
        let later_here : Later one.event (moments_of_notes (event + 1) notes) = subst (λ (e : ℕ). Later e (moments_of_notes (event + 1) notes)) (sym same) (later_notes event (event + 1) notes (omega arith)) in
        let rest = in_order more (moments_of_notes (event + 1) notes) in
        let later : Later event rest = later_order event more (moments_of_notes (event + 1) notes) behind_event (later_notes event (event + 1) notes (omega arith)) in
        ap (λ (moments : List HappenedAt). kept_from parts front (in_order (one ∷ more) (moments ++ moments_of_notes (event + 1) notes))) still
        ∙ (ap (kept_from parts front) (item_first one more (moments_of_notes (event + 1) notes) later_here)
        ∙ (ap (λ (here : Front). kept_by parts here one ∷ kept_from parts (after_served here one) rest) (stays one.event front.place (noted ∷ notes) (sym same))
        ∙ ap (λ (tail : List (List Draw)). kept_by parts front one ∷ tail)
        ((λ i. kept_from parts (record { place = record { event = event; tick = tick; schedule = schedule; seen = after_item (same i) (noted_if (eq-eqb event one.event (sym same) i) (noted ∷ notes)) seen one }; notes = noted ∷ notes }) rest)
        ∙ later_front parts (record { event = event; tick = tick; schedule = schedule; seen = after_item event noted seen one }) noted notes rest later)))

    by : Step event noted notes left → Goal left
    by (Here one more is same still fit_on behind_event) =
        subst Goal (sym is)
        (ap (λ (told : Passed). map (brought parts) (fold pass told notes).repeated) (pass_here event tick noted seen done repeated one more [] same)
        ∙ (others (event + 1) event (tick_after tick noted) (rest_items schedule) (noted_seen event noted (after_item event noted seen one)) (done ++ made event tick noted seen []) (repeated ++ repeated_by (plain_seen seen) one ∷ []) more refl fit_on
        ∙ (ap (λ (lists : List (List Draw)). lists ++ kept_from parts (front_at (event + 1) (tick_after tick noted) (rest_items schedule) (noted_seen event noted (after_item event noted seen one)) notes) (in_order more (moments_of_notes (event + 1) notes))) (map-append (brought parts) repeated (repeated_by (plain_seen seen) one ∷ []))
        ∙ (append_assoc (map (brought parts) repeated) (brought parts (repeated_by (plain_seen seen) one) ∷ []) _
        ∙ ap (λ (lists : List (List Draw)). map (brought parts) repeated ++ lists)
        (ap (λ (draws : List Draw). draws ∷ kept_from parts (front_at (event + 1) (tick_after tick noted) (rest_items schedule) (noted_seen event noted (after_item event noted seen one)) notes) (in_order more (moments_of_notes (event + 1) notes))) (one_brings parts front.place (noted ∷ notes) one)
        ∙ sym (served one more same still behind_event))))))
    by (Apart apart fit_on behind_event) =
        ap (λ (told : Passed). map (brought parts) (fold pass told notes).repeated) (pass_apart event tick noted seen done repeated left [] apart)
        ∙ (others (event + 1) event (tick_after tick noted) (rest_items schedule) (noted_seen event noted seen) (done ++ made event tick noted seen []) repeated left refl fit_on
        ∙ ap (λ (lists : List (List Draw)). map (brought parts) repeated ++ lists) (sym (note_brings parts event front.place noted notes left refl behind_event)))

brought_from : (parts : List Part) (notes : List Note) → BroughtFrom parts notes
brought_from parts [] event last tick schedule seen done repeated left next fit =
    sym (append-nil (map (brought parts) repeated))
    ∙ ap (λ (items : List Served). map (brought parts) repeated ++ kept_from parts (front_at event tick schedule seen []) (in_order items [])) (sym (none_left event last left fit))
brought_from parts (noted ∷ notes) event last tick schedule seen done repeated left next fit = brought_note parts noted notes (brought_from parts notes) event last tick schedule seen done repeated left next fit

-- for any submissions with their steps
pub brought_told : (all : List Part) (document : Document) (report : Report) → IsTold report
    → map (brought all) (passed_by report).repeated ≡ kept_from all (first_front document report) (moments report)
brought_told all document report told = brought_from all report.notes 1 0 0 document.schedule nothing_seen [] [] report.served refl (fit_all report told)
