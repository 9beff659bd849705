-- Where a front stands that came past so many of the notes.
use Rattle.std.proofs.Common.{◌≡◌, refl, sym, ap, subst, ◌∙◌, ℕ, zero, suc, ◌+◌, ◌<◌, ◌≤◌, Bool, true, false, length, get_or, drop, List, [], ◌∷◌, Option, arith, length-drop, add-one}
use Rattle.std.specs.Prelude.{nat_lt, slice_get}
use Rattle.std.specs.Option.{option_map_or}
use Rattle.std.proofs.lemmas.Bool.{ltb-true, ltb-false}
use Rattle.outage_schedule.specs.declared.event.Event.{Event}
use Rattle.outage_schedule.specs.declared.note.Note.{Note}
use Rattle.shown_clauses.specs.meaning.Fronts.{first_item, rest_items}
use Rattle.shown_clauses.specs.meaning.Happenings.{tick_after}
use Rattle.shown_clauses.specs.meaning.Places.{Place, Front, behind, reach_from, reach, ticks_in}
use Rattle.legal_items.specs.Told.{ticks_from}

-- ---- lists

pub first_drop : {A : Type 0} (n : ℕ) (xs : List A) → first_item (drop n xs) ≡ slice_get xs n
first_drop zero [] = refl
first_drop zero (x ∷ xs) = refl
first_drop (suc n) [] = refl
first_drop (suc n) (x ∷ xs) = first_drop n xs

rest_suc : {A : Type 0} (n : ℕ) (xs : List A) → rest_items (drop n xs) ≡ drop (suc n) xs
rest_suc zero [] = refl
rest_suc zero (x ∷ xs) = refl
rest_suc (suc n) [] = refl
rest_suc (suc n) (x ∷ xs) = rest_suc n xs

pub rest_drop : {A : Type 0} (n : ℕ) (xs : List A) → rest_items (drop n xs) ≡ drop (n + 1) xs
rest_drop n xs = rest_suc n xs ∙ sym (ap (λ (m : ℕ). drop m xs) (add-one n))

-- ---- ticks

ticks_suc : (n tick : ℕ) (notes : List Note) (first : Note) (more : List Note) → first ∷ more ≡ drop n notes → tick_after (ticks_in n tick notes) first ≡ ticks_in (suc n) tick notes
ticks_suc zero tick [] first more is = absurd (let never : ⊥ = cc in never)
ticks_suc zero tick (one ∷ notes) first more is = ap (λ (at : Option Note). option_map_or (tick_after tick) at 0) (ap first_item is)
ticks_suc (suc n) tick [] first more is = absurd (let never : ⊥ = cc in never)
ticks_suc (suc n) tick (one ∷ notes) first more is = ticks_suc n (tick_after tick one) notes first more is

ticks_more : (n : ℕ) (notes : List Note) (first : Note) (more : List Note) → first ∷ more ≡ drop n notes → tick_after (ticks_in n 0 notes) first ≡ ticks_in (n + 1) 0 notes
ticks_more n notes first more is = ticks_suc n 0 notes first more is ∙ sym (ap (λ (m : ℕ). ticks_in m 0 notes) (add-one n))

-- those before an event are those of the table
pub ticks_at : (n tick : ℕ) (notes : List Note) → n < length notes → ticks_in n tick notes ≡ get_or (ticks_from tick notes) n 0
ticks_at n tick [] within = absurd (omega (arith, within))
ticks_at zero tick (one ∷ notes) within = refl
ticks_at (suc n) tick (one ∷ notes) within = ticks_at n (tick_after tick one) notes (omega (arith, within))

-- ---- fronts

pub record Stands (schedule : List Event) (notes : List Note) (passed : ℕ) (front : Front) : Type 0 where
  pub event : front.place.event ≡ passed + 1
  pub tick : front.place.tick ≡ ticks_in passed 0 notes
  pub ahead : front.place.schedule ≡ drop passed schedule
  pub left : front.notes ≡ drop passed notes

stands_behind : (schedule : List Event) (notes : List Note) (passed : ℕ) (place : Place) (first : Note) (more : List Note) → Stands schedule notes passed (record { place = place; notes = first ∷ more }) → Stands schedule notes (passed + 1) (record { place = behind first place; notes = more })
stands_behind schedule notes passed place first more stands = record {
  event = ap (λ (n : ℕ). n + 1) stands.event;
  tick = ap (λ (tick : ℕ). tick_after tick first) stands.tick ∙ ticks_more passed notes first more stands.left;
  ahead = ap rest_items stands.ahead ∙ rest_drop passed schedule;
  left = ap rest_items stands.left ∙ rest_drop passed notes;
}

-- An event whose note is of these is reached, from whatever notes are left.
abbrev Reaches : List Event → List Note → ℕ → List Note → Type 0
Reaches schedule notes target left =
    (passed : ℕ) (place : Place) → Stands schedule notes passed (record { place = place; notes = left }) → passed ≤ target
    → Stands schedule notes target (reach (target + 1) (record { place = place; notes = left }))

reach_on : (event : ℕ) (place : Place) (first : Note) (more : List Note) → reach_from event true first more place ≡ reach event (record { place = behind first place; notes = more })
reach_on event place first [] = refl
reach_on event place first (next ∷ more) = refl

reaches_more : (schedule : List Event) (notes : List Note) (target : ℕ) (first : Note) (more : List Note) → Reaches schedule notes target more → Reaches schedule notes target (first ∷ more)
reaches_more schedule notes target first more others passed place stands most = by (nat_lt place.event (target + 1)) refl
  where
    at : place.event ≡ passed + 1
    at = stands.event

    by : (test : Bool) → nat_lt place.event (target + 1) ≡ test → Stands schedule notes target (reach_from (target + 1) test first more place)
    by true is =
        let below = ltb-true place.event (target + 1) is in
        subst (Stands schedule notes target) (sym (reach_on (target + 1) place first more))
        (others (passed + 1) (behind first place) (stands_behind schedule notes passed place first more stands) (omega (arith, below, at)))
    by false is =
        let above = ltb-false place.event (target + 1) is in
        let here : passed ≡ target = omega (arith, above, at, most) in
        subst (λ (n : ℕ). Stands schedule notes n (record { place = place; notes = first ∷ more })) here stands

reaches_from : (schedule : List Event) (notes : List Note) (target : ℕ) → target < length notes → (left : List Note) → Reaches schedule notes target left
reaches_from schedule notes target within [] passed place stands most =
    let over : 0 ≡ length (drop passed notes) = ap length stands.left in
    let few = length-drop passed notes in
    absurd (omega (arith, over, few, within, most))
reaches_from schedule notes target within (first ∷ more) passed place stands most =
    reaches_more schedule notes target first more (reaches_from schedule notes target within more) passed place stands most

-- a front that stands before this event reaches it
pub reaches : (schedule : List Event) (notes : List Note) (target passed : ℕ) (front : Front) → target < length notes → Stands schedule notes passed front → passed ≤ target
    → Stands schedule notes target (reach (target + 1) front)
reaches schedule notes target passed front within stands most = reaches_from schedule notes target within front.notes passed front.place stands most
