-- Tests of all items of a list.
use Rattle.std.proofs.Common.{◌≡◌, refl, sym, ap, ◌∙◌, ℕ, ◌+◌, ◌<◌, Bool, true, false, not, length, get_or, drop, List, [], ◌∷◌, map}
use Rattle.std.specs.Prelude.{◌&&◌, ◌||◌}
use Rattle.std.specs.List.{filter, list_all}
use Rattle.std.specs.List.Sorted.{IsPermutation}
use Rattle.std.proofs.lemmas.List.Sorted.{All-permutation, IsPermutation-sym}
use Rattle.std.proofs.lemmas.List.Sums.{AllPass-from_list_all, list_all-from_AllPass}
use Rattle.report_moments.proofs.Offered.{left_is}

all_at : {A B : Type 0} (test : B → Bool) (f : A → B) (xs : List A) (i : ℕ) (x : A) → i < length xs → x ≡ get_or xs i x → (b : Bool) → test (f x) ≡ b
    → list_all test (map f (drop i xs)) ≡ (b && list_all test (map f (drop (i + 1) xs)))
all_at test f xs i x within is b tests =
    ap (λ ys. list_all test (map f ys)) (left_is xs i x within is) ∙ ap (λ t. t && list_all test (map f (drop (i + 1) xs))) tests

-- one that does not meet it
pub all_wrong : {A B : Type 0} (test : B → Bool) (f : A → B) (xs : List A) (i : ℕ) (x : A) → i < length xs → x ≡ get_or xs i x → test (f x) ≡ false → list_all test (map f (drop i xs)) ≡ false
all_wrong test f xs i x within is wrong = all_at test f xs i x within is false wrong

-- one that does
pub all_right : {A B : Type 0} (test : B → Bool) (f : A → B) (xs : List A) (i : ℕ) (x : A) → i < length xs → x ≡ get_or xs i x → test (f x) ≡ true
    → list_all test (map f (drop i xs)) ≡ list_all test (map f (drop (i + 1) xs))
all_right test f xs i x within is right = all_at test f xs i x within is true right

-- ---- in another order

all_moved : {A : Type 0} (test : A → Bool) (xs ys : List A) → IsPermutation xs ys → list_all test xs ≡ true → list_all test ys ≡ true
all_moved test xs ys same all = list_all-from_AllPass test ys (All-permutation (λ x. test x ≡ true) xs ys same (AllPass-from_list_all test xs all))

alike : (a b : Bool) → (a ≡ true → b ≡ true) → (b ≡ true → a ≡ true) → a ≡ b
alike true b to from = sym (to refl)
alike false true to from = from refl
alike false false to from = refl

pub all_permuted : {A : Type 0} (test : A → Bool) (xs ys : List A) → IsPermutation xs ys → list_all test xs ≡ list_all test ys
all_permuted test xs ys same = alike (list_all test xs) (list_all test ys) (all_moved test xs ys same) (all_moved test ys xs (IsPermutation-sym xs ys same))

-- of those that meet a test, as a test of all
pub all_filtered : {A : Type 0} (test among : A → Bool) (xs : List A) → list_all test (filter among xs) ≡ list_all (λ x. not (among x) || test x) xs
all_filtered test among [] = refl
all_filtered test among (x ∷ xs) = by (among x) refl (all_filtered test among xs)
  where
    by : (b : Bool) → among x ≡ b → list_all test (filter among xs) ≡ list_all (λ y. not (among y) || test y) xs
        → list_all test (filter among (x ∷ xs)) ≡ list_all (λ y. not (among y) || test y) (x ∷ xs)
    by true is rest = rw is (ap (λ t. test x && t) rest)
    by false is rest = rw is rest
