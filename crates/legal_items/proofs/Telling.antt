-- The items of a report are those that its moments tell beside its ticks, its schedule and what is
-- kept.
use Rattle.std.proofs.Common.{◌≡◌, refl, sym, ap, subst, ◌∙◌, ℕ, ◌+◌, ◌-◌, ◌<◌, ◌≤◌, Bool, length, get_or, List, [], ◌∷◌, ◌++◌, arith}
use Rattle.std.specs.Prelude.{slice_get, drop}
use Rattle.std.proofs.lemmas.Bool.{le-ltb}
use Rattle.svc_values.specs.declared.draw.Draw.{Draw}
use Rattle.svc_values.specs.meaning.Identifiers.{session_of}
use Rattle.outage_schedule.specs.declared.event.Event.{Event}
use Rattle.outage_schedule.specs.declared.note.Note.{Note}
use Rattle.outage_schedule.specs.declared.document.Document.{Document}
use Rattle.outage_schedule.specs.declared.report.Report.{Report}
use Rattle.told_reports.specs.Keeping.{IsTold}
use Rattle.report_story.specs.Kept.{kept_here, kept_from, kept_of}
use Rattle.run_clauses.specs.meaning.Moments.{HappenedAt, Happened, ServedItem, RanOutside, Asked, moments}
use Rattle.server_model.specs.meaning.Items.{Item, AskTold}
use Rattle.shown_clauses.specs.meaning.Fronts.{first_item}
use Rattle.shown_clauses.specs.meaning.KeptDraws.{parts, is_marked_item}
use Rattle.shown_clauses.specs.meaning.LegalItems.{kept_if, did_at, calls_of, outside_items, items_at, after_moment, items_from, items_of}
use Rattle.shown_clauses.specs.meaning.Parts.{Part}
use Rattle.shown_clauses.specs.meaning.Places.{Front, first_front, reach, tick_if, tick_at}
use Rattle.shown_clauses.specs.meaning.Things.{outcome_of, thing_of}
use Rattle.legal_items.specs.Told.{ticks_from, items_then, served_count, first_kept}
use Rattle.legal_items.proofs.Rising.{Rises, moments_rise}
use Rattle.legal_items.proofs.Standing.{first_drop, ticks_at, Stands, reaches}

-- without places
abbrev pub plain_told : List Event → List ℕ → List (List Draw) → List HappenedAt → List Item
plain_told schedule ticks kept [] = []
plain_told schedule ticks kept (moment ∷ more) =
    items_then schedule (get_or ticks (moment.event - 1) 0) (first_kept kept) moment.event moment.happened
    ++ plain_told schedule ticks (drop (served_count moment.happened) kept) more

abbrev AreTold : List Part → List Event → List Note → List HappenedAt → Type 0
AreTold parts schedule notes all =
    (from passed : ℕ) (front : Front) → Stands schedule notes passed front → passed < from → Rises from (length notes) all
    → items_from parts notes front all ≡ plain_told schedule (ticks_from 0 notes) (kept_from parts front all) all

-- what happened at an event that the front has reached
here_told : (parts : List Part) (schedule : List Event) (notes : List Note) (event passed : ℕ) (here : Front) (more : List HappenedAt) → AreTold parts schedule notes more
    → Stands schedule notes passed here → event ≡ passed + 1 → passed < length notes → Rises event (length notes) more
    → (happened : Happened)
    → items_at parts here event (tick_at notes here event) happened ++ items_from parts notes (after_moment here event happened) more
    ≡ (let kept : List (List Draw) = kept_here parts here event happened ++ kept_from parts (after_moment here event happened) more in
    items_then schedule (get_or (ticks_from 0 notes) (event - 1) 0) (first_kept kept) event happened ++ plain_told schedule (ticks_from 0 notes) (drop (served_count happened) kept) more)
here_told parts schedule notes event passed here more others stands at within rises = by
  where
    place : passed ≡ event - 1
    place = omega (arith, at)

    most : here.place.event ≤ event
    most = let same = stands.event in omega (arith, same, at)

    tick : tick_at notes here event ≡ get_or (ticks_from 0 notes) (event - 1) 0
    tick =
        ap (λ (test : Bool). tick_if test here.place.tick event notes) (le-ltb event here.place.event most)
        ∙ (stands.tick ∙ (ticks_at passed 0 notes within ∙ ap (λ (n : ℕ). get_or (ticks_from 0 notes) n 0) place))

    event_is : first_item here.place.schedule ≡ slice_get schedule (event - 1)
    event_is = ap first_item stands.ahead ∙ (first_drop passed schedule ∙ ap (slice_get schedule) place)

    rest : (after : Front) → Stands schedule notes passed after → items_from parts notes after more ≡ plain_told schedule (ticks_from 0 notes) (kept_from parts after more) more
    rest after stays = others event passed after stays (omega (arith, at)) rises

    by : (happened : Happened)
        → items_at parts here event (tick_at notes here event) happened ++ items_from parts notes (after_moment here event happened) more
        ≡ (let kept : List (List Draw) = kept_here parts here event happened ++ kept_from parts (after_moment here event happened) more in
        items_then schedule (get_or (ticks_from 0 notes) (event - 1) 0) (first_kept kept) event happened ++ plain_told schedule (ticks_from 0 notes) (drop (served_count happened) kept) more)
    by (ServedItem session served) =
        let after = after_moment here event (ServedItem session served) in
        let same = rest after (record { event = stands.event; tick = stands.tick; ahead = stands.ahead; left = stands.left }) in
        λ i. did_at event (tick i) session (thing_of (kept_if (is_marked_item served) parts here (record { event = event; session = session; item = served })) served) ∷ same i
    by (RanOutside ran) = let same = rest here stands in λ i. outside_items event (tick i) (session_of ran.ltxid) (calls_of (event_is i)) ran.runs ++ same i
    by (Asked x told) = let same = rest here stands in λ i. AskTold event x (outcome_of told) ∷ same i

moment_told : (parts : List Part) (schedule : List Event) (notes : List Note) (moment : HappenedAt) (more : List HappenedAt) → AreTold parts schedule notes more → AreTold parts schedule notes (moment ∷ more)
moment_told parts schedule notes moment more others from passed front stands below rises =
    let begins = rises.0 in
    let ends = rises.1.0 in
    let at : moment.event - 1 + 1 ≡ moment.event = omega (arith, begins, below) in
    let here = reaches schedule notes (moment.event - 1) passed front (omega (arith, begins, ends, below)) stands (omega (arith, begins, below)) in
    here_told parts schedule notes moment.event (moment.event - 1) (reach moment.event front) more others
    (subst (λ (event : ℕ). Stands schedule notes (moment.event - 1) (reach event front)) at here) (sym at) (omega (arith, begins, ends, below)) rises.1.1 moment.happened

told_from : (parts : List Part) (schedule : List Event) (notes : List Note) (all : List HappenedAt) → AreTold parts schedule notes all
told_from parts schedule notes [] from passed front stands below rises = refl
told_from parts schedule notes (moment ∷ more) from passed front stands below rises =
    moment_told parts schedule notes moment more (told_from parts schedule notes more) from passed front stands below rises

pub are_told : (document : Document) (report : Report) → IsTold report
    → plain_told document.schedule (ticks_from 0 report.notes) (kept_of document report) (moments report) ≡ items_of document report
are_told document report told =
    sym (told_from (parts document report) document.schedule report.notes (moments report) 1 0 (first_front document report)
    (record { event = refl; tick = refl; ahead = refl; left = refl }) (omega arith) (moments_rise report told))
