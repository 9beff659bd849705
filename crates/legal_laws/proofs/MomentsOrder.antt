-- The moments that a report tells of its sessions, from an event on: first those of the event.
use Rattle.std.proofs.Common.{◌≡◌, refl, ap, ℕ, ◌+◌, ◌<◌, ◌≤◌, Bool, true, false, List, [], ◌∷◌, ◌++◌, Some, if◌then◌else◌, arith}
use Rattle.std.specs.Prelude.{nat_lt}
use Rattle.std.proofs.lemmas.Bool.Decides.{nat_tests}
use Rattle.outage_schedule.specs.declared.item.Served.{Served}
use Rattle.outage_schedule.specs.declared.note.Note.{Note}
use Rattle.outage_schedule.specs.declared.note.Note.TheVariants as note
use Rattle.run_clauses.specs.meaning.Moments.{HappenedAt, moments_of_notes, moment_of_item, before_event, from_event, in_order}
use Rattle.legal_laws.proofs.FrontMoves.{below_is}

-- each item is of an event behind this one
abbrev pub AreLater : ℕ → List Served → Type 0
AreLater event [] = Unit {0}
AreLater event (one ∷ items) = (event < one.event) × AreLater event items

not_below : (a b : ℕ) → b ≤ a → nat_lt a b ≡ false
not_below a b most = grind (arith, nat_tests)

-- NOTES -------------------------------------------------------------------------------------------

-- none of these notes is of an event before the first one
record NoneBefore (event : ℕ) (moments : List HappenedAt) : Type 0 where
  before : before_event event moments ≡ []
  from : from_event event moments ≡ moments

none_first : (event : ℕ) (moment : HappenedAt) (moments : List HappenedAt) → event ≤ moment.event → NoneBefore event (moment ∷ moments)
none_first event moment moments most =
    let later : nat_lt moment.event event ≡ false = not_below moment.event event most in
    record {
      before = ap (λ (test : Bool). if test then moment ∷ before_event event moments else []) later;
      from = ap (λ (test : Bool). if test then from_event event moments else moment ∷ moments) later;
    }

none_before : (event first : ℕ) (notes : List Note) → event ≤ first → NoneBefore event (moments_of_notes first notes)
none_before event first [] most = record { before = refl; from = refl }
none_before event first (note.Outside (Some ran) ∷ notes) most = none_first event _ (moments_of_notes (first + 1) notes) most
none_before event first (note.Ask x (Some told) ∷ notes) most = none_first event _ (moments_of_notes (first + 1) notes) most
none_before event first (one ∷ notes) most = let later : event ≤ first + 1 = omega (arith, most) in none_before event (first + 1) notes later

-- an event that served one item
pub served_first : (event : ℕ) (served : Served) (first : ℕ) (items : List Served) (notes : List Note) → served.event ≡ event → event ≤ first
    → in_order (served ∷ items) (moments_of_notes first notes) ≡ moment_of_item served ∷ in_order items (moments_of_notes first notes)
served_first event served first items notes same most =
    let most_here : served.event ≤ first = omega (arith, same, most) in
    let none : NoneBefore served.event (moments_of_notes first notes) = none_before served.event first notes most_here in
    λ i. none.before i ++ moment_of_item served ∷ in_order items (none.from i)

-- an event that its note tells alone
pub noted_first : (moment : HappenedAt) (items : List Served) (moments : List HappenedAt) → AreLater moment.event items → in_order items (moment ∷ moments) ≡ moment ∷ in_order items moments
noted_first moment [] moments later = refl
noted_first moment (one ∷ items) moments later =
    let below : nat_lt moment.event one.event ≡ true = below_is moment.event one.event later.0 in
    λ i. (if below i then moment ∷ before_event one.event moments else []) ++ moment_of_item one ∷ in_order items (if below i then from_event one.event moments else moment ∷ moments)
