-- One item more, somewhere in a list.
use Rattle.std.proofs.Common.{◌≡◌, refl, sym, ap, subst, ◌∙◌, Bool, true, false, ℕ, suc, zero, ◌+◌, cond, List, [], ◌∷◌, ◌++◌, count_by, filter_map, flat_map, Option, Some, None, arith}
use Rattle.std.specs.Prelude.{slice_get, slice_set}
use Rattle.std.specs.List.{list_all, cons_option}
use Rattle.std.proofs.lemmas.Bool.{and_parts, and_from}
use Rattle.std.proofs.lemmas.List.Sums.{sum_by-cons}
use Rattle.world_model.specs.Sames.{all_with, each_pair}

pub data Inserted {A : Type 0} (x : A) : List A → List A → Type 0 where
  Here : (xs : List A) → Inserted x xs (x ∷ xs)
  There : (y : A) (xs ys : List A) → Inserted x xs ys → Inserted x (y ∷ xs) (y ∷ ys)

pub inserted_behind : {A : Type 0} (x : A) (zs xs ys : List A) → Inserted x xs ys → Inserted x (zs ++ xs) (zs ++ ys)
inserted_behind x [] xs ys more = more
inserted_behind x (z ∷ zs) xs ys more = There z (zs ++ xs) (zs ++ ys) (inserted_behind x zs xs ys more)

pub inserted_between : {A : Type 0} (x : A) (zs xs : List A) → Inserted x (zs ++ xs) ((zs ++ x ∷ []) ++ xs)
inserted_between x [] xs = Here xs
inserted_between x (z ∷ zs) xs = There z (zs ++ xs) ((zs ++ x ∷ []) ++ xs) (inserted_between x zs xs)

-- TESTS -------------------------------------------------------------------------------------------

pub all_inserted : {A : Type 0} (test : A → Bool) (x : A) (xs ys : List A) → Inserted x xs ys → list_all test xs ≡ true → test x ≡ true → list_all test ys ≡ true
all_inserted test x xs _ (Here rest) all here = and_from (test x) (list_all test xs) here all
all_inserted test x _ _ (There y xs ys more) all here =
    let parts = and_parts (test y) (list_all test xs) all in and_from (test y) (list_all test ys) parts.0 (all_inserted test x xs ys more parts.1 here)

with_inserted : {A : Type 0} (test : A → Bool) (x : A) (xs ys : List A) → Inserted x xs ys → all_with test xs ≡ true → test x ≡ true → all_with test ys ≡ true
with_inserted test x xs _ (Here rest) all here = and_from (test x) (all_with test xs) here all
with_inserted test x _ _ (There y xs ys more) all here =
    let parts = and_parts (test y) (all_with test xs) all in and_from (test y) (all_with test ys) parts.0 (with_inserted test x xs ys more parts.1 here)

pub as_with : {A : Type 0} (test : A → Bool) (xs : List A) → list_all test xs ≡ true → all_with test xs ≡ true
as_with test [] all = refl
as_with test (x ∷ xs) all = let parts = and_parts (test x) (list_all test xs) all in and_from (test x) (all_with test xs) parts.0 (as_with test xs parts.1)

-- it stands so to each other, and each other to it
pub pairs_inserted : {A : Type 0} (test : A → A → Bool) (x : A) (xs ys : List A) → Inserted x xs ys → each_pair test xs ≡ true → list_all (test x) xs ≡ true → list_all (λ y. test y x) xs ≡ true
    → each_pair test ys ≡ true
pairs_inserted test x xs _ (Here rest) pairs one other = and_from (all_with (test x) xs) (each_pair test xs) (as_with (test x) xs one) pairs
pairs_inserted test x _ _ (There y xs ys more) pairs one other =
    let parts = and_parts (all_with (test y) xs) (each_pair test xs) pairs in
    let first = and_parts (test x y) (list_all (test x) xs) one in
    let second = and_parts (test y x) (list_all (λ z. test z x) xs) other in
    and_from (all_with (test y) ys) (each_pair test ys) (with_inserted (test y) x xs ys more parts.0 second.0) (pairs_inserted test x xs ys more parts.1 first.1 second.1)

pub count_inserted : {A : Type 0} (test : A → Bool) (x : A) (xs ys : List A) → Inserted x xs ys → count_by test ys ≡ cond (test x) 1 0 + count_by test xs
count_inserted test x xs _ (Here rest) = sum_by-cons (λ y. cond (test y) 1 0) x xs
count_inserted test x _ _ (There y xs ys more) =
    let first = sum_by-cons (λ z. cond (test z) 1 0) y ys in
    let second = sum_by-cons (λ z. cond (test z) 1 0) y xs in
    let rest = count_inserted test x xs ys more in
    first ∙ (ap (λ (n : ℕ). cond (test y) 1 0 + n) rest ∙ (turned (cond (test y) 1 0) (cond (test x) 1 0) (count_by test xs) ∙ ap (λ (n : ℕ). cond (test x) 1 0 + n) (sym second)))
  where
    turned : (a b c : ℕ) → a + (b + c) ≡ b + (a + c)
    turned a b c = omega arith

-- none passes
pub count_none : {A : Type 0} (test : A → Bool) (xs : List A) → ((x : A) → test x ≡ true → ⊥) → count_by test xs ≡ 0
count_none test [] never = refl
count_none test (x ∷ xs) never = sum_by-cons (λ y. cond (test y) 1 0) x xs ∙ (ap (λ (n : ℕ). cond (test x) 1 0 + n) (count_none test xs never) ∙ by (test x) (never x))
  where
    by : (b : Bool) → (b ≡ true → ⊥) → cond b 1 0 + 0 ≡ 0
    by true none = absurd (none refl)
    by false none = refl

-- AMONG LISTS -------------------------------------------------------------------------------------

pub flat_set : {A B : Type 0} (f : A → List B) (x : B) (many : List A) (index : ℕ) (old new : A) → slice_get many index ≡ Some old → f new ≡ f old ++ x ∷ []
    → Inserted x (flat_map f many) (flat_map f (slice_set many index new))
flat_set f x [] index old new is more = absurd (let none : ⊥ = cc in none)
flat_set {B = B} f x (a ∷ many) zero old new is more =
    let same : a ≡ old = cc in
    let now : f new ≡ f a ++ x ∷ [] = more ∙ ap (λ c. f c ++ x ∷ []) (sym same) in
    subst (λ (front : List B). Inserted x (f a ++ flat_map f many) (front ++ flat_map f many)) (sym now) (inserted_between x (f a) (flat_map f many))
flat_set f x (a ∷ many) (suc index) old new is more = inserted_behind x (f a) (flat_map f many) (flat_map f (slice_set many index new)) (flat_set f x many index old new is more)

pub flat_same : {A B : Type 0} (f : A → List B) (many : List A) (index : ℕ) (old new : A) → slice_get many index ≡ Some old → f new ≡ f old → flat_map f (slice_set many index new) ≡ flat_map f many
flat_same f [] index old new is same = refl
flat_same f (a ∷ many) zero old new is same = let here : a ≡ old = cc in ap (λ front. front ++ flat_map f many) (same ∙ ap f (sym here))
flat_same f (a ∷ many) (suc index) old new is same = ap (λ rest. f a ++ rest) (flat_same f many index old new is same)

cons_behind : {B : Type 0} (first : Option B) (x : B) (xs ys : List B) → Inserted x xs ys → Inserted x (cons_option first xs) (cons_option first ys)
cons_behind None x xs ys more = more
cons_behind (Some y) x xs ys more = There y xs ys more

pub found_set : {A B : Type 0} (f : A → Option B) (x : B) (many : List A) (index : ℕ) (old new : A) → slice_get many index ≡ Some old → f old ≡ None → f new ≡ Some x
    → Inserted x (filter_map f many) (filter_map f (slice_set many index new))
found_set f x [] index old new is none some = absurd (let none : ⊥ = cc in none)
found_set {B = B} f x (a ∷ many) zero old new is none some =
    let same : a ≡ old = cc in
    let before : f a ≡ None = ap f same ∙ none in
    subst (λ (first : Option B). Inserted x (cons_option first (filter_map f many)) (cons_option (f new) (filter_map f many))) (sym before)
    (subst (λ (first : Option B). Inserted x (filter_map f many) (cons_option first (filter_map f many))) (sym some) (Here (filter_map f many)))
found_set f x (a ∷ many) (suc index) old new is none some = cons_behind (f a) x (filter_map f many) (filter_map f (slice_set many index new)) (found_set f x many index old new is none some)

pub found_same : {A B : Type 0} (f : A → Option B) (many : List A) (index : ℕ) (old new : A) → slice_get many index ≡ Some old → f new ≡ f old → filter_map f (slice_set many index new) ≡ filter_map f many
found_same f [] index old new is same = refl
found_same f (a ∷ many) zero old new is same = let here : a ≡ old = cc in ap (λ first. cons_option first (filter_map f many)) (same ∙ ap f (sym here))
found_same f (a ∷ many) (suc index) old new is same = ap (λ rest. cons_option (f a) rest) (found_same f many index old new is same)
