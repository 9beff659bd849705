-- Small facts on lists: what stands at a place, what is found, and what is joined.
use Rattle.std.proofs.Common.{◌≡◌, refl, ap, ◌∙◌, Bool, true, ℕ, suc, zero, ◌||◌, length, List, [], ◌∷◌, map, Some, ◌⊎◌, inl, inr, arith}
use Rattle.std.specs.Prelude.{slice_get}
use Rattle.std.specs.List.{list_all, list_any}
use Rattle.std.proofs.lemmas.Bool.{and_parts, or_cases, or_left, or_right}

pub none_of : {A : Type 0} (xs : List A) → length xs ≡ 0 → xs ≡ []
none_of [] is = refl
none_of (x ∷ xs) is = absurd (let none : ⊥ = omega (arith, is) in none)

pub get_mapped : {A B : Type 0} (change : A → B) (xs : List A) (index : ℕ) (x : A) → slice_get xs index ≡ Some x → slice_get (map change xs) index ≡ Some (change x)
get_mapped change [] index x is = absurd (let none : ⊥ = cc in none)
get_mapped change (y ∷ ys) zero x is = let same : y ≡ x = cc in ap (λ z. Some (change z)) same
get_mapped change (y ∷ ys) (suc index) x is = get_mapped change ys index x is

-- A TEST OF ONE OF THEM ---------------------------------------------------------------------------

pub at_any : {A : Type 0} (test : A → Bool) (xs : List A) (index : ℕ) (x : A) → slice_get xs index ≡ Some x → test x ≡ true → list_any test xs ≡ true
at_any test [] index x at meets = absurd (let none : ⊥ = cc in none)
at_any test (y ∷ ys) zero x at meets = let same : y ≡ x = cc in or_left (test y) (list_any test ys) (ap test same ∙ meets)
at_any test (y ∷ ys) (suc index) x at meets = or_right (test y) (list_any test ys) (at_any test ys index x at meets)

-- where it meets one test it meets the other
pub any_goes : {A : Type 0} (p r : A → Bool) → ((x : A) → p x ≡ true → r x ≡ true) → (xs : List A) → list_any p xs ≡ true → list_any r xs ≡ true
any_goes p r goes [] any = any
any_goes p r goes (x ∷ xs) any = by (or_cases (p x) (list_any p xs) any) (λ later. any_goes p r goes xs later)
  where
    by : (p x ≡ true) ⊎ (list_any p xs ≡ true) → (list_any p xs ≡ true → list_any r xs ≡ true) → (r x || list_any r xs) ≡ true
    by (inl here) again = or_left (r x) (list_any r xs) (goes x here)
    by (inr later) again = or_right (r x) (list_any r xs) (again later)

-- one that meets a test, of items that all meet another
pub any_with : {A : Type 0} (p q r : A → Bool) (xs : List A) → ((x : A) → p x ≡ true → q x ≡ true → r x ≡ true) → list_any p xs ≡ true → list_all q xs ≡ true → list_any r xs ≡ true
any_with p q r [] both any all = absurd (let none : ⊥ = cc in none)
any_with {A} p q r (x ∷ xs) both any all =
    let parts = and_parts (q x) (list_all q xs) all in by (or_cases (p x) (list_any p xs) any) parts.0 (λ later. any_with p q r xs both later parts.1)
  where
    by : (p x ≡ true) ⊎ (list_any p xs ≡ true) → q x ≡ true → (list_any p xs ≡ true → list_any r xs ≡ true) → (r x || list_any r xs) ≡ true
    by (inl here) passes again = or_left (r x) (list_any r xs) (both x here passes)
    by (inr later) passes again = or_right (r x) (list_any r xs) (again later)
