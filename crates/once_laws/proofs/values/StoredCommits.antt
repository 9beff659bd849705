-- A stored call's transaction has its commit on the connection, at its place or behind it: nothing
-- that begins or ends a transaction stands before that.
use Rattle.std.proofs.Common.{◌≡◌, refl, sym, ap, ◌∙◌, arith, ℕ, suc, zero, ◌<◌, ◌≤◌, ◌&&◌, not, Bool, true, false, List, [], ◌∷◌, Some, if◌then◌else◌}
use Rattle.std.specs.Prelude.{drop, slice_get}
use Rattle.svc_values.specs.meaning.Endings.{ends_committed}
use Rattle.outage_schedule.specs.declared.item.Item.{Item}
use Rattle.outage_schedule.specs.declared.item.Item.TheVariants as item
use Rattle.server_model.specs.meaning.Walk.{ends}
use Rattle.world_model.specs.meaning.Frames.{Handled}
use Rattle.once_laws.specs.StoredOnce.{goes, is_stored_next}

-- the call that stored its transaction
abbrev pub stores_item : Bool → Item → Bool
stores_item stood (item.Call marked called answers draws) = ends_committed answers
stores_item stood (item.CrashedCall marked called) = stood
stores_item stood _ = false

-- what leaves the transaction that is open as it is, or adds to it
abbrev pub leaves_open : Item → Bool
leaves_open (item.Begin settings) = false
leaves_open (item.Call marked called answers draws) = not (ends_committed answers) && not (ends answers)
leaves_open (item.CrashedCall marked called) = false
leaves_open _ = true

pub record Stores (stood : Bool) (served : List Handled) (place : ℕ) : Type 0 where
  pub last : ℕ
  pub one : Handled
  pub at : slice_get served last ≡ Some one
  pub from : place ≤ last
  pub stores : stores_item stood one.served.item ≡ true
  pub between : (index : ℕ) (other : Handled) → place ≤ index → index < last → slice_get served index ≡ Some other → leaves_open other.served.item ≡ true

module _ (stood : Bool) where
  here : (one : Handled) (others : List Handled) → stores_item stood one.served.item ≡ true → Stores stood (one ∷ others) 0
  here one others stores = record { last = 0; one = one; at = refl; from = omega arith; stores = stores; between = λ index other from below at. absurd (let never : ⊥ = omega (arith, below) in never) }

  behind : (one : Handled) (others : List Handled) → leaves_open one.served.item ≡ true → Stores stood others 0 → Stores stood (one ∷ others) 0
  behind one others open_so found = record { last = suc found.last; one = found.one; at = found.at; from = omega arith; stores = found.stores; between = between }
    where
      between : (index : ℕ) (other : Handled) → 0 ≤ index → index < suc found.last → slice_get (one ∷ others) index ≡ Some other → leaves_open other.served.item ≡ true
      between zero other from below at = let same : one ≡ other = cc in ap (λ (h : Handled). leaves_open h.served.item) (sym same) ∙ open_so
      between (suc index) other from below at = found.between index other (omega arith) (omega (arith, below)) at

  further : (one : Handled) (others : List Handled) (place : ℕ) → Stores stood others place → Stores stood (one ∷ others) (suc place)
  further one others place found = record { last = suc found.last; one = found.one; at = found.at; from = let from = found.from in omega (arith, from); stores = found.stores; between = between }
    where
      between : (index : ℕ) (other : Handled) → suc place ≤ index → index < suc found.last → slice_get (one ∷ others) index ≡ Some other → leaves_open other.served.item ≡ true
      between zero other from below at = absurd (let never : ⊥ = omega (arith, from) in never)
      between (suc index) other from below at = found.between index other (omega (arith, from)) (omega (arith, below)) at

  first_stores : (served : List Handled) → is_stored_next stood served ≡ true → Stores stood served 0
  first_stores [] is = absurd (let none : ⊥ = cc in none)
  first_stores (one ∷ others) is = by one.served.item refl is (λ later. first_stores others later)
    where
      by : (it : Item) → one.served.item ≡ it → goes stood it (is_stored_next stood others) ≡ true → (is_stored_next stood others ≡ true → Stores stood others 0) → Stores stood (one ∷ others) 0
      by (item.Begin settings) same is again = absurd (let none : ⊥ = cc in none)
      by (item.Call marked called answers draws) same is again = on (ends_committed answers) (ends answers) refl refl is
        where
          on : (committed ended : Bool) → ends_committed answers ≡ committed → ends answers ≡ ended → (if committed then true else (if ended then false else is_stored_next stood others)) ≡ true → Stores stood (one ∷ others) 0
          on true ended commits ending is = here one others (ap (stores_item stood) same ∙ commits)
          on false true commits ending is = absurd (let none : ⊥ = cc in none)
          on false false commits ending is = behind one others (ap leaves_open same ∙ (ap (λ (test : Bool). not test && not (ends answers)) commits ∙ ap not ending)) (again is)
      by (item.CrashedCall marked called) same is again = here one others (ap (stores_item stood) same ∙ is)
      by it same is again = behind one others (ap leaves_open same) (again is)

  pub stores_from : (served : List Handled) (place : ℕ) → is_stored_next stood (drop place served) ≡ true → Stores stood served place
  stores_from served zero is = first_stores served is
  stores_from [] (suc place) is = absurd (let none : ⊥ = cc in none)
  stores_from (one ∷ others) (suc place) is = further one others place (stores_from others place is)
