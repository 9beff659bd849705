-- The items of a report that was read stand at events that rise, each at a note that is no moment
-- of its own.
use Rattle.std.proofs.Common.{◌≡◌, refl, sym, ap, ◌∙◌, ℕ, suc, ◌+◌, ◌-◌, ◌<◌, ◌≤◌, Bool, true, false, not, List, [], ◌∷◌, arith}
use Rattle.std.specs.Prelude.{◌&&◌, ◌==◌, nat_lt, filter, slice_get}
use Rattle.std.specs.Option.{option_map_or}
use Rattle.std.proofs.lemmas.Bool.{and_parts, and_from, eqb-true, eqb-false, ltb-true, lt-ltb, le-leb, lt-leb, eq-eqb}
use Rattle.outage_schedule.specs.declared.item.Served.{Served}
use Rattle.outage_schedule.specs.declared.note.Note.{Note}
use Rattle.outage_schedule.specs.declared.note.Note.TheVariants as note
use Rattle.told_reports.specs.declared.place.ServedWord.{ServedWord}
use Rattle.told_reports.specs.Keeping.{word_of_item, events_fit}
use Rattle.told_reports.specs.meaning.Places.{may_stand, fits_event}
use Rattle.run_clauses.specs.meaning.Moments.{moment_of_note}
use Rattle.shown_clauses.specs.meaning.Fronts.{front_from, front_of, rest_from, rest_of}
use Rattle.shown_clauses.specs.meaning.Happenings.{is_up_to, items_at}

-- the item may stand at the note of its event, of the notes from this event on
abbrev pub stands : ℕ → List Note → Served → Bool
stands event notes one = option_map_or (λ noted. may_stand noted (word_of_item one.item)) (slice_get notes (one.event - event)) false

-- the items behind an event, of the notes from another one on
abbrev pub fits : ℕ → List Note → ℕ → List Served → Bool
fits event notes last [] = true
fits event notes last (one ∷ items) = (nat_lt last one.event && stands event notes one) && fits event notes one.event items

pub fits_first : (notes : List Note) (last : ℕ) (items : List Served) → events_fit notes last items ≡ fits 1 notes last items
fits_first notes last [] = refl
fits_first notes last (one ∷ items) = ap (λ rest. fits_event notes (word_of_item one.item) last one.event && rest) (fits_first notes one.event items)

-- no item at this event comes first
abbrev pub is_apart : ℕ → List Served → Bool
is_apart event [] = true
is_apart event (one ∷ items) = not (one.event == event)

-- each item is of an event behind this one
abbrev pub AreBehind : ℕ → List Served → Type 0
AreBehind event [] = Unit {0}
AreBehind event (one ∷ items) = (event < one.event) × AreBehind event items

-- ---- one note further

stands_on : (event : ℕ) (noted : Note) (notes : List Note) (one : Served) → event < one.event → stands event (noted ∷ notes) one ≡ stands (event + 1) notes one
stands_on event noted notes one later =
    let far : one.event - event ≡ suc (one.event - (event + 1)) = omega arith in
    ap (λ (at : ℕ). option_map_or (λ note. may_stand note (word_of_item one.item)) (slice_get (noted ∷ notes) at) false) far

pub fits_on : (event last : ℕ) (noted : Note) (notes : List Note) (items : List Served) → event ≤ last → fits event (noted ∷ notes) last items ≡ true → fits (event + 1) notes last items ≡ true
fits_on event last noted notes [] most fit = refl
fits_on event last noted notes (one ∷ items) most fit =
    let parts = and_parts (nat_lt last one.event && stands event (noted ∷ notes) one) (fits event (noted ∷ notes) one.event items) fit in
    let here = and_parts (nat_lt last one.event) (stands event (noted ∷ notes) one) parts.0 in
    let above = ltb-true last one.event here.0 in
    let behind : event < one.event = omega (arith, above, most) in
    let within : event ≤ one.event = omega (arith, behind) in
    and_from _ _ (and_from _ _ here.0 (sym (stands_on event noted notes one behind) ∙ here.1)) (fits_on event one.event noted notes items within parts.1)

-- those behind an event are behind an earlier one
behind_too : (event last : ℕ) (items : List Served) → event ≤ last → AreBehind last items → AreBehind event items
behind_too event last [] most behind = tt
behind_too event last (one ∷ items) most behind = (omega (arith, behind.0, most), behind_too event last items most behind.1)

pub fits_behind : (event last : ℕ) (notes : List Note) (items : List Served) → fits event notes last items ≡ true → AreBehind last items
fits_behind event last notes [] fit = tt
fits_behind event last notes (one ∷ items) fit =
    let parts = and_parts (nat_lt last one.event && stands event notes one) (fits event notes one.event items) fit in
    let here = and_parts (nat_lt last one.event) (stands event notes one) parts.0 in
    let above = ltb-true last one.event here.0 in
    (above, behind_too last one.event items (omega (arith, above)) (fits_behind event one.event notes items parts.1))

-- a note at which an item may stand is no moment
stands_still : (event : ℕ) (noted : Note) (word : ServedWord) → may_stand noted word ≡ true → moment_of_note event noted ≡ []
stands_still event (note.Serve connection frame) word may = refl
stands_still event (note.Crash connection down) word may = refl
stands_still event (note.Outside ran) word may = absurd (let never : ⊥ = cc in never)
stands_still event (note.Ask x told) word may = absurd (let never : ⊥ = cc in never)
stands_still event (note.Go client did) word may = refl
stands_still event (note.Cut connection reached) word may = refl
stands_still event (note.Reap connection reaped) word may = refl
stands_still event (note.Up incarnation) word may = refl
stands_still event (note.UpCrash made) word may = refl
stands_still event note.Tick word may = refl
stands_still event (note.Drain closed) word may = refl

-- How the items go on behind a note: the first one stands there, or none does.
pub data Step (event : ℕ) (noted : Note) (notes : List Note) (left : List Served) : Type 0 where
  Here : (one : Served) (items : List Served) → left ≡ one ∷ items → one.event ≡ event → moment_of_note event noted ≡ [] → fits (event + 1) notes event items ≡ true → AreBehind event items → Step event noted notes left
  Apart : is_apart event left ≡ true → fits (event + 1) notes event left ≡ true → AreBehind event left → Step event noted notes left

pub step_of : (event last : ℕ) (noted : Note) (notes : List Note) (items : List Served) → event ≡ last + 1 → fits event (noted ∷ notes) last items ≡ true → Step event noted notes items
step_of event last noted notes [] next fit = Apart refl refl tt
step_of event last noted notes (one ∷ items) next fit = by (one.event == event) refl
  where
    parts : ((nat_lt last one.event && stands event (noted ∷ notes) one) ≡ true) × (fits event (noted ∷ notes) one.event items ≡ true)
    parts = and_parts (nat_lt last one.event && stands event (noted ∷ notes) one) (fits event (noted ∷ notes) one.event items) fit

    here : (nat_lt last one.event ≡ true) × (stands event (noted ∷ notes) one ≡ true)
    here = and_parts (nat_lt last one.event) (stands event (noted ∷ notes) one) parts.0

    by : (b : Bool) → (one.event == event) ≡ b → Step event noted notes (one ∷ items)
    by true is =
        let at : one.event ≡ event = eqb-true one.event event is in
        let zero : one.event - event ≡ 0 = omega (arith, at) in
        let stands_at = ap (λ (place : ℕ). option_map_or (λ note. may_stand note (word_of_item one.item)) (slice_get (noted ∷ notes) place) false) (sym zero) ∙ here.1 in
        let rest : fits event (noted ∷ notes) event items ≡ true = ap (λ (place : ℕ). fits event (noted ∷ notes) place items) (sym at) ∙ parts.1 in
        let on = fits_on event event noted notes items (omega arith) rest in
        Here one items refl at (stands_still event noted (word_of_item one.item) stands_at) on (fits_behind (event + 1) event notes items on)
    by false is =
        let above = ltb-true last one.event here.0 in
        let other = eqb-false one.event event is in
        let later : event < one.event = omega (arith, above, other, next) in
        let on : fits (event + 1) notes event (one ∷ items) ≡ true =
        and_from _ _ (and_from _ _ (lt-ltb event one.event later) (sym (stands_on event noted notes one later) ∙ here.1)) (fits_on event one.event noted notes items (omega (arith, later)) parts.1) in
        Apart (ap not is) on (fits_behind (event + 1) event notes (one ∷ items) on)

-- none is left behind the last note
pub none_left : (event last : ℕ) (items : List Served) → fits event [] last items ≡ true → items ≡ []
none_left event last [] fit = refl
none_left event last (one ∷ items) fit =
    let parts = and_parts (nat_lt last one.event && false) (fits event [] one.event items) fit in
    let here = and_parts (nat_lt last one.event) false parts.0 in
    absurd (let never : ⊥ = let no : false ≡ true = here.1 in cc in never)

-- ---- the items of an event

front_stops : (event : ℕ) (items : List Served) → AreBehind event items → front_of (is_up_to event) items ≡ []
front_stops event [] behind = refl
front_stops event (one ∷ items) behind = ap (λ b. front_from (is_up_to event) b one items) (lt-leb one.event event behind.0)

rest_stops : (event : ℕ) (items : List Served) → AreBehind event items → rest_of (is_up_to event) items ≡ items
rest_stops event [] behind = refl
rest_stops event (one ∷ items) behind = ap (λ b. rest_from (is_up_to event) b one items) (lt-leb one.event event behind.0)

front_more : (event : ℕ) (one : Served) (items : List Served) → front_from (is_up_to event) true one items ≡ one ∷ front_of (is_up_to event) items
front_more event one [] = refl
front_more event one (next ∷ items) = refl

rest_more : (event : ℕ) (one : Served) (items : List Served) → rest_from (is_up_to event) true one items ≡ rest_of (is_up_to event) items
rest_more event one [] = refl
rest_more event one (next ∷ items) = refl

kept_one : (event : ℕ) (one : Served) → (one.event == event) ≡ true → filter (λ (served : Served). served.event == event) (one ∷ []) ≡ one ∷ []
kept_one event one is = rw is refl

pub none_at : (event : ℕ) (items : List Served) → AreBehind event items → items_at event items ≡ []
none_at event items behind = ap (filter (λ (served : Served). served.event == event)) (front_stops event items behind)

pub none_passed : (event : ℕ) (items : List Served) → AreBehind event items → rest_of (is_up_to event) items ≡ items
none_passed event items behind = rest_stops event items behind

pub one_at : (event : ℕ) (one : Served) (items : List Served) → one.event ≡ event → AreBehind event items → items_at event (one ∷ items) ≡ one ∷ []
one_at event one items at behind =
    let upto = le-leb one.event event (omega (arith, at)) in
    ap (filter (λ (served : Served). served.event == event))
    (ap (λ b. front_from (is_up_to event) b one items) upto ∙ (front_more event one items ∙ ap (λ (rest : List Served). one ∷ rest) (front_stops event items behind)))
    ∙ kept_one event one (eq-eqb one.event event at)

pub one_passed : (event : ℕ) (one : Served) (items : List Served) → one.event ≡ event → AreBehind event items → rest_of (is_up_to event) (one ∷ items) ≡ items
one_passed event one items at behind =
    let upto = le-leb one.event event (omega (arith, at)) in
    ap (λ b. rest_from (is_up_to event) b one items) upto ∙ (rest_more event one items ∙ rest_stops event items behind)
