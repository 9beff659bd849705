-- A test that holds of each item of a list: where one is changed, where all are, and where one
-- comes behind them.
use Rattle.std.proofs.Common.{◌≡◌, refl, subst, ◌∙◌, Bool, true, false, ℕ, suc, zero, List, [], ◌∷◌, ◌++◌, map, filter, Some, if◌then◌else◌}
use Rattle.std.specs.Prelude.{slice_get, slice_set}
use Rattle.std.specs.List.{list_all}
use Rattle.std.proofs.lemmas.Bool.{and_parts, and_from}
use Rattle.std.proofs.lemmas.List.Folds.{list_all-append}

pub set_all : {A : Type 0} (test : A → Bool) (xs : List A) (index : ℕ) (x : A) → list_all test xs ≡ true → test x ≡ true → list_all test (slice_set xs index x) ≡ true
set_all test [] index x all here = refl
set_all test (y ∷ ys) zero x all here = and_from (test x) (list_all test ys) here (and_parts (test y) (list_all test ys) all).1
set_all test (y ∷ ys) (suc index) x all here =
    let parts = and_parts (test y) (list_all test ys) all in and_from (test y) (list_all test (slice_set ys index x)) parts.0 (set_all test ys index x parts.1 here)

pub at_all : {A : Type 0} (test : A → Bool) (xs : List A) (index : ℕ) (x : A) → list_all test xs ≡ true → slice_get xs index ≡ Some x → test x ≡ true
at_all test [] index x all e = absurd (let none : ⊥ = cc in none)
at_all test (y ∷ ys) zero x all e = let same : y ≡ x = cc in subst (λ z. test z ≡ true) same (and_parts (test y) (list_all test ys) all).0
at_all test (y ∷ ys) (suc index) x all e = at_all test ys index x (and_parts (test y) (list_all test ys) all).1 e

-- each item is changed, and passes another test then
pub map_all : {A B : Type 0} (test : A → Bool) (next : B → Bool) (change : A → B) (xs : List A) → ((x : A) → test x ≡ true → next (change x) ≡ true) → list_all test xs ≡ true → list_all next (map change xs) ≡ true
map_all test next change [] keeps all = refl
map_all test next change (x ∷ xs) keeps all =
    let parts = and_parts (test x) (list_all test xs) all in and_from (next (change x)) (list_all next (map change xs)) (keeps x parts.0) (map_all test next change xs keeps parts.1)

pub weaker_all : {A : Type 0} (test next : A → Bool) (xs : List A) → ((x : A) → test x ≡ true → next x ≡ true) → list_all test xs ≡ true → list_all next xs ≡ true
weaker_all test next [] keeps all = refl
weaker_all test next (x ∷ xs) keeps all =
    let parts = and_parts (test x) (list_all test xs) all in and_from (next x) (list_all next xs) (keeps x parts.0) (weaker_all test next xs keeps parts.1)

-- it holds of each
pub every_all : {A : Type 0} (test : A → Bool) (xs : List A) → ((x : A) → test x ≡ true) → list_all test xs ≡ true
every_all test [] each = refl
every_all test (x ∷ xs) each = and_from (test x) (list_all test xs) (each x) (every_all test xs each)

pub append_all : {A : Type 0} (test : A → Bool) (xs ys : List A) → list_all test xs ≡ true → list_all test ys ≡ true → list_all test (xs ++ ys) ≡ true
append_all test xs ys first second = list_all-append test xs ys ∙ and_from (list_all test xs) (list_all test ys) first second

pub one_all : {A : Type 0} (test : A → Bool) (x : A) → test x ≡ true → list_all test (x ∷ []) ≡ true
one_all test x here = and_from (test x) true here refl

-- of those that are left in
pub filter_all : {A : Type 0} (test keep : A → Bool) (xs : List A) → list_all test xs ≡ true → list_all test (filter keep xs) ≡ true
filter_all test keep [] all = refl
filter_all test keep (x ∷ xs) all = let parts = and_parts (test x) (list_all test xs) all in by (keep x) parts.0 (filter_all test keep xs parts.1)
  where
    by : (kept : Bool) → test x ≡ true → list_all test (filter keep xs) ≡ true → list_all test (if kept then x ∷ filter keep xs else filter keep xs) ≡ true
    by true here rest = and_from (test x) (list_all test (filter keep xs)) here rest
    by false here rest = rest

-- what is left in passes the test of the filter
pub filter_passes : {A : Type 0} (keep : A → Bool) (xs : List A) → list_all keep (filter keep xs) ≡ true
filter_passes keep [] = refl
filter_passes keep (x ∷ xs) = by (keep x) refl (filter_passes keep xs)
  where
    by : (kept : Bool) → keep x ≡ kept → list_all keep (filter keep xs) ≡ true → list_all keep (if kept then x ∷ filter keep xs else filter keep xs) ≡ true
    by true is rest = and_from (keep x) (list_all keep (filter keep xs)) is rest
    by false is rest = rest
