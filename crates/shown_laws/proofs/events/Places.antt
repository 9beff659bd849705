-- What stands at a place of a list: where a test holds of all, where one item becomes another,
-- where more follow, and where all are mapped.
use Rattle.std.proofs.Common.{◌≡◌, ◌≢◌, refl, sym, ap, ◌∙◌, Bool, true, ℕ, zero, suc, length, List, [], ◌∷◌, ◌++◌, map, Some, option_map, ◌⊎◌, inl, inr}
use Rattle.std.specs.Prelude.{slice_get, slice_set}
use Rattle.std.specs.List.{list_all}
use Rattle.std.proofs.lemmas.Bool.{and_parts}

pub all_at : {A : Type 0} (test : A → Bool) (all : List A) (index : ℕ) (one : A) → list_all test all ≡ true → slice_get all index ≡ Some one → test one ≡ true
all_at test [] index one right is = absurd (let none : ⊥ = cc in none)
all_at {A} test (first ∷ all) zero one right is = let same : first ≡ one = cc in ap test (sym same) ∙ (and_parts (test first) (list_all test all) right).0
all_at test (first ∷ all) (suc index) one right is = all_at test all index one (and_parts (test first) (list_all test all) right).1 is

pub set_own : {A : Type 0} (all : List A) (index : ℕ) (old new : A) → slice_get all index ≡ Some old → slice_get (slice_set all index new) index ≡ Some new
set_own [] index old new is = absurd (let none : ⊥ = cc in none)
set_own (first ∷ all) zero old new is = refl
set_own (first ∷ all) (suc index) old new is = set_own all index old new is

pub set_other : {A : Type 0} (all : List A) (index other : ℕ) (new : A) → other ≢ index → slice_get (slice_set all index new) other ≡ slice_get all other
set_other [] index other new differ = refl
set_other (first ∷ all) zero zero new differ = absurd (differ refl)
set_other (first ∷ all) zero (suc other) new differ = refl
set_other (first ∷ all) (suc index) zero new differ = refl
set_other (first ∷ all) (suc index) (suc other) new differ = set_other all index other new (λ same. differ (ap suc same))

pub get_front : {A : Type 0} (xs ys : List A) (index : ℕ) (x : A) → slice_get xs index ≡ Some x → slice_get (xs ++ ys) index ≡ Some x
get_front [] ys index x is = absurd (let none : ⊥ = cc in none)
get_front (first ∷ xs) ys zero x is = is
get_front (first ∷ xs) ys (suc index) x is = get_front xs ys index x is

pub get_last : {A : Type 0} (xs : List A) (x : A) → slice_get (xs ++ x ∷ []) (length xs) ≡ Some x
get_last [] x = refl
get_last (first ∷ xs) x = get_last xs x

-- one of some, or the one behind them
pub get_push : {A : Type 0} (xs : List A) (x y : A) (place : ℕ) → slice_get (xs ++ x ∷ []) place ≡ Some y → (slice_get xs place ≡ Some y) ⊎ ((place ≡ length xs) × (x ≡ y))
get_push [] x y zero is = inr (refl, let same : x ≡ y = cc in same)
get_push [] x y (suc place) is = absurd (let none : ⊥ = cc in none)
get_push (one ∷ xs) x y zero is = inl is
get_push (one ∷ xs) x y (suc place) is = by (get_push xs x y place is)
  where
    by : (slice_get xs place ≡ Some y) ⊎ ((place ≡ length xs) × (x ≡ y)) → (slice_get xs place ≡ Some y) ⊎ ((suc place ≡ length (one ∷ xs)) × (x ≡ y))
    by (inl there) = inl there
    by (inr last) = inr (ap suc last.0, last.1)

-- one of the first list or of the second
pub get_either : {A : Type 0} (xs ys : List A) (index : ℕ) (x : A) → slice_get (xs ++ ys) index ≡ Some x → (slice_get xs index ≡ Some x) ⊎ ((other : ℕ) × (slice_get ys other ≡ Some x))
get_either [] ys index x is = inr (index, is)
get_either (first ∷ xs) ys zero x is = inl is
get_either (first ∷ xs) ys (suc index) x is = get_either xs ys index x is

pub get_map : {A B : Type 0} (f : A → B) (xs : List A) (index : ℕ) → slice_get (map f xs) index ≡ option_map f (slice_get xs index)
get_map f [] index = refl
get_map f (first ∷ xs) zero = refl
get_map f (first ∷ xs) (suc index) = get_map f xs index
