-- The items of a report with their places.
use Rattle.std.proofs.Common.{◌≡◌, refl, ap, ◌∙◌, ℕ, ◌-◌, get_or, List, [], ◌∷◌, ◌++◌, map, drop}
use Rattle.std.specs.Prelude.{All}
use Rattle.std.proofs.lemmas.List.{map-append}
use Rattle.std.proofs.lemmas.List.Elements.{All-nil, All-cons, All-head, All-tail, All-same, All-append, All-map, All-weaker}
use Rattle.svc_values.specs.declared.draw.Draw.{Draw}
use Rattle.svc_values.specs.declared.entry.SessionId.{SessionId}
use Rattle.svc_values.specs.meaning.Identifiers.{session_of}
use Rattle.outage_schedule.specs.declared.event.Event.{Event}
use Rattle.outage_schedule.specs.declared.document.Document.{Document}
use Rattle.outage_schedule.specs.declared.report.Report.{Report}
use Rattle.told_reports.specs.Keeping.{IsTold}
use Rattle.report_story.specs.Kept.{kept_of}
use Rattle.run_clauses.specs.meaning.Moments.{HappenedAt, Happened, ServedItem, RanOutside, Asked, moments}
use Rattle.server_model.specs.meaning.Items.{Item, Thing, Connected, Began}
use Rattle.shown_clauses.specs.meaning.LegalItems.{calls_of, things_of, all_did, items_of}
use Rattle.std.specs.Prelude.{slice_get}
use Rattle.report_moments.specs.declared.moments.At.{At}
use Rattle.report_moments.specs.declared.moments.Moment.{Moment}
use Rattle.report_moments.specs.Places.{IsPlaced}
use Rattle.report_moments.specs.Views.{moment_as}
use Rattle.legal_items.specs.declared.placed.PlacedItem.{PlacedItem}
use Rattle.legal_items.specs.Places.{event_of, IsPlacedItem}
use Rattle.legal_items.specs.Told.{ticks_from, items_then, served_count, first_kept, at_place, items_told}
use Rattle.legal_items.specs.Views.{item_in, placed_as, moment_at}
use Rattle.legal_items.proofs.Telling.{plain_told, are_told}

-- ---- without their places

abbrev item_of : At × Item → Item
item_of one = one.1

abbrev moment_of : At × HappenedAt → HappenedAt
moment_of one = one.1

items_alone : (items : List PlacedItem) → map item_in items ≡ map item_of (map placed_as items)
items_alone [] = refl
items_alone (one ∷ items) = ap (λ (more : List Item). item_in one ∷ more) (items_alone items)

moments_alone : (all : List Moment) → map moment_of (map moment_at all) ≡ map moment_as all
moments_alone [] = refl
moments_alone (one ∷ all) = ap (λ (more : List HappenedAt). moment_as one ∷ more) (moments_alone all)

placed_alone : (at : At) (items : List Item) → map item_of (at_place at items) ≡ items
placed_alone at [] = refl
placed_alone at (one ∷ items) = ap (λ (more : List Item). one ∷ more) (placed_alone at items)

told_alone : (schedule : List Event) (ticks : List ℕ) (kept : List (List Draw)) (all : List (At × HappenedAt)) → map item_of (items_told schedule ticks kept all) ≡ plain_told schedule ticks kept (map moment_of all)
told_alone schedule ticks kept [] = refl
told_alone schedule ticks kept (one ∷ more) =
    let here = items_then schedule (get_or ticks (one.1.event - 1) 0) (first_kept kept) one.1.event one.1.happened in
    map-append item_of (at_place one.0 here) (items_told schedule ticks (drop (served_count one.1.happened) kept) more)
    ∙ λ i. placed_alone one.0 here i ++ told_alone schedule ticks (drop (served_count one.1.happened) kept) more i

pub told_so : (document : Document) (report : Report) (items : List PlacedItem) (all : List Moment) → IsTold report
    → map placed_as items ≡ items_told document.schedule (ticks_from 0 report.notes) (kept_of document report) (map moment_at all) → map moment_as all ≡ moments report
    → map item_in items ≡ items_of document report
told_so document report items all told are all_are =
    let ticks = ticks_from 0 report.notes in
    items_alone items
    ∙ (ap (map item_of) are
    ∙ (told_alone document.schedule ticks (kept_of document report) (map moment_at all)
    ∙ (ap (plain_told document.schedule ticks (kept_of document report)) (moments_alone all ∙ all_are)
    ∙ are_told document report told)))

-- ---- at their places

did_then : (event tick : ℕ) (session : SessionId) (things : List Thing) → All (λ (one : Item). event_of one ≡ event) (all_did event tick session things)
did_then event tick session [] = All-nil (λ (one : Item). event_of one ≡ event)
did_then event tick session (thing ∷ things) = All-cons (λ (one : Item). event_of one ≡ event) _ _ refl (did_then event tick session things)

then_of : (schedule : List Event) (tick : ℕ) (kept : List Draw) (event : ℕ) (happened : Happened) → All (λ (one : Item). event_of one ≡ event) (items_then schedule tick kept event happened)
then_of schedule tick kept event (ServedItem session served) = All-cons (λ (one : Item). event_of one ≡ event) _ [] refl (All-nil (λ (one : Item). event_of one ≡ event))
then_of schedule tick kept event (RanOutside ran) = did_then event tick (session_of ran.ltxid) (Connected ∷ Began [] ∷ things_of (calls_of (slice_get schedule (event - 1))) ran.runs)
then_of schedule tick kept event (Asked x told) = All-cons (λ (one : Item). event_of one ≡ event) _ [] refl (All-nil (λ (one : Item). event_of one ≡ event))

-- those of a moment that stands at its place
here_placed : (report : Report) (moment : Moment) (items : List Item) → IsPlaced report moment → All (λ (one : Item). event_of one ≡ moment.event) items → All (IsPlacedItem report) (at_place moment.at items)
here_placed report moment items placed then =
    let Then : Item → Type 0 = λ one. event_of one ≡ moment.event in
    let There : Item → Type 0 = λ one. IsPlacedItem report (moment.at, one) in
    All-map (IsPlacedItem report) (λ (one : Item). (moment.at, one)) items
    (All-weaker Then There (λ one is. record { moment = moment_as moment; stands = placed; event = is }) items then)

all_placed : (report : Report) (schedule : List Event) (ticks : List ℕ) (kept : List (List Draw)) (all : List Moment) → All (IsPlaced report) all → All (IsPlacedItem report) (items_told schedule ticks kept (map moment_at all))
all_placed report schedule ticks kept [] placed = All-nil (IsPlacedItem report)
all_placed report schedule ticks kept (moment ∷ more) placed =
    let one = moment_as moment in
    let here = items_then schedule (get_or ticks (one.event - 1) 0) (first_kept kept) one.event one.happened in
    All-append (IsPlacedItem report) (at_place moment.at here) (items_told schedule ticks (drop (served_count one.happened) kept) (map moment_at more))
    (here_placed report moment here (All-head (IsPlaced report) moment more placed) (then_of schedule (get_or ticks (one.event - 1) 0) (first_kept kept) one.event one.happened))
    (all_placed report schedule ticks (drop (served_count one.happened) kept) more (All-tail (IsPlaced report) moment more placed))

pub placed_so : (report : Report) (schedule : List Event) (ticks : List ℕ) (kept : List (List Draw)) (items : List PlacedItem) (all : List Moment)
    → map placed_as items ≡ items_told schedule ticks kept (map moment_at all) → All (IsPlaced report) all → All (IsPlacedItem report) (map placed_as items)
placed_so report schedule ticks kept items all are placed = All-same (IsPlacedItem report) (map placed_as items) (items_told schedule ticks kept (map moment_at all)) are (all_placed report schedule ticks kept all placed)
