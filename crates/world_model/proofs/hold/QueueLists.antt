-- Lists of numbers that are apart: one behind them, and without one of them.
use Rattle.std.proofs.Common.{◌≡◌, ◌≢◌, refl, sym, ap, subst, ◌∙◌, Bool, true, false, ℕ, ◌+◌, ◌&&◌, ◌||◌, cond, length, List, [], ◌∷◌, ◌++◌, flat_map, arith}
use Rattle.std.specs.Prelude.{◌==◌, not}
use Rattle.std.specs.List.{list_all}
use Rattle.std.proofs.lemmas.Bool.{and_parts, and_from, or_parts, not-true, not_from_false}
use Rattle.std.proofs.lemmas.List.Concat.{flat_map-cons}
use Rattle.pool_core.specs.meaning.Slots.{is_among, without}
use Rattle.world_model.specs.Sames.{all_with, each_pair}
use Rattle.world_model.proofs.events.Tests.{eq_from, eq_to}
use Rattle.world_model.proofs.events.AllLists.{weaker_all}
use Rattle.world_model.proofs.hold.IdleKept.{without_rest}

-- two that are not the same
abbrev pub apart : ℕ → ℕ → Bool
apart a b = not (a == b)

-- LISTS -------------------------------------------------------------------------------------------

pub with_append : {A : Type 0} (test : A → Bool) (xs ys : List A) → all_with test xs ≡ true → all_with test ys ≡ true → all_with test (xs ++ ys) ≡ true
with_append test [] ys one other = other
with_append test (x ∷ xs) ys one other = let parts = and_parts (test x) (all_with test xs) one in and_from (test x) (all_with test (xs ++ ys)) parts.0 (with_append test xs ys parts.1 other)

pub with_parts : {A : Type 0} (test : A → Bool) (xs ys : List A) → all_with test (xs ++ ys) ≡ true → (all_with test xs ≡ true) × (all_with test ys ≡ true)
with_parts test [] ys is = (refl, is)
with_parts test (x ∷ xs) ys is =
    let parts = and_parts (test x) (all_with test (xs ++ ys)) is in
    let rest = with_parts test xs ys parts.1 in
    (and_from (test x) (all_with test xs) parts.0 rest.0, rest.1)

-- pairs of a list behind another: of each, and across
pub record IsPaired {A : Type 0} (test : A → A → Bool) (xs ys : List A) : Type 0 where
  pub first : each_pair test xs ≡ true
  pub second : each_pair test ys ≡ true
  pub across : list_all (λ x. all_with (test x) ys) xs ≡ true

pub pair_parts : {A : Type 0} (test : A → A → Bool) (xs ys : List A) → each_pair test (xs ++ ys) ≡ true → IsPaired test xs ys
pair_parts test [] ys is = record { first = refl; second = is; across = refl }
pair_parts test (x ∷ xs) ys is =
    let parts = and_parts (all_with (test x) (xs ++ ys)) (each_pair test (xs ++ ys)) is in
    let both = with_parts (test x) xs ys parts.0 in
    let rest = pair_parts test xs ys parts.1 in
    record {
      first = and_from (all_with (test x) xs) (each_pair test xs) both.0 rest.first;
      second = rest.second;
      across = and_from (all_with (test x) ys) (list_all (λ one. all_with (test one) ys) xs) both.1 rest.across;
    }

pub pair_from : {A : Type 0} (test : A → A → Bool) (xs ys : List A) → IsPaired test xs ys → each_pair test (xs ++ ys) ≡ true
pair_from test [] ys is = is.second
pair_from test (x ∷ xs) ys is =
    let one = and_parts (all_with (test x) xs) (each_pair test xs) is.first in
    let two = and_parts (all_with (test x) ys) (list_all (λ other. all_with (test other) ys) xs) is.across in
    and_from (all_with (test x) (xs ++ ys)) (each_pair test (xs ++ ys)) (with_append (test x) xs ys one.0 two.0) (pair_from test xs ys (record { first = one.1; second = is.second; across = two.1 }))

-- WITHOUT ONE -------------------------------------------------------------------------------------

pub all_without : (test : ℕ → Bool) (numbers : List ℕ) (gone : ℕ) → list_all test numbers ≡ true → list_all test (without numbers gone) ≡ true
all_without test numbers gone all =
    weaker_all (λ number. test number && not (number == gone)) test (without numbers gone) (λ number is. (and_parts (test number) (not (number == gone)) is).0) (without_rest test numbers gone all)

with_without : (test : ℕ → Bool) (numbers : List ℕ) (gone : ℕ) → all_with test numbers ≡ true → all_with test (without numbers gone) ≡ true
with_without test [] gone all = refl
with_without test (number ∷ numbers) gone all =
    let parts = and_parts (test number) (all_with test numbers) all in by (not (number == gone)) parts.0 (with_without test numbers gone parts.1)
  where
    by : (stays : Bool) → test number ≡ true → all_with test (without numbers gone) ≡ true → all_with test (cond stays (number ∷ without numbers gone) (without numbers gone)) ≡ true
    by true here rest = and_from (test number) (all_with test (without numbers gone)) here rest
    by false here rest = rest

pub pairs_without : (test : ℕ → ℕ → Bool) (numbers : List ℕ) (gone : ℕ) → each_pair test numbers ≡ true → each_pair test (without numbers gone) ≡ true
pairs_without test [] gone all = refl
pairs_without test (number ∷ numbers) gone all =
    let parts = and_parts (all_with (test number) numbers) (each_pair test numbers) all in by (not (number == gone)) (with_without (test number) numbers gone parts.0) (pairs_without test numbers gone parts.1)
  where
    by : (stays : Bool) → all_with (test number) (without numbers gone) ≡ true → each_pair test (without numbers gone) ≡ true → each_pair test (cond stays (number ∷ without numbers gone) (without numbers gone)) ≡ true
    by true here rest = and_from (all_with (test number) (without numbers gone)) (each_pair test (without numbers gone)) here rest
    by false here rest = rest

-- what each of a list has, without those of one
flat_with : (test : ℕ → Bool) (f : ℕ → List ℕ) (numbers : List ℕ) (gone : ℕ) → all_with test (flat_map f numbers) ≡ true → all_with test (flat_map f (without numbers gone)) ≡ true
flat_with test f [] gone all = refl
flat_with test f (number ∷ numbers) gone all =
    let parts = with_parts test (f number) (flat_map f numbers) (subst (λ (xs : List ℕ). all_with test xs ≡ true) (flat_map-cons f number numbers) all) in
    by (not (number == gone)) parts.0 (flat_with test f numbers gone parts.1)
  where
    by : (stays : Bool) → all_with test (f number) ≡ true → all_with test (flat_map f (without numbers gone)) ≡ true → all_with test (flat_map f (cond stays (number ∷ without numbers gone) (without numbers gone))) ≡ true
    by true here rest = subst (λ (xs : List ℕ). all_with test xs ≡ true) (sym (flat_map-cons f number (without numbers gone))) (with_append test (f number) (flat_map f (without numbers gone)) here rest)
    by false here rest = rest

pub flat_without : (test : ℕ → ℕ → Bool) (f : ℕ → List ℕ) (numbers : List ℕ) (gone : ℕ) → each_pair test (flat_map f numbers) ≡ true → each_pair test (flat_map f (without numbers gone)) ≡ true
flat_without test f [] gone all = refl
flat_without test f (number ∷ numbers) gone all =
    let parts = pair_parts test (f number) (flat_map f numbers) (subst (λ (xs : List ℕ). each_pair test xs ≡ true) (flat_map-cons f number numbers) all) in
    by (not (number == gone)) parts (flat_without test f numbers gone parts.second)
  where
    by : (stays : Bool) → IsPaired test (f number) (flat_map f numbers) → each_pair test (flat_map f (without numbers gone)) ≡ true → each_pair test (flat_map f (cond stays (number ∷ without numbers gone) (without numbers gone))) ≡ true
    by true parts rest =
        subst (λ (xs : List ℕ). each_pair test xs ≡ true) (sym (flat_map-cons f number (without numbers gone)))
        (pair_from test (f number) (flat_map f (without numbers gone)) (record {
          first = parts.first;
          second = rest;
          across = weaker_all (λ x. all_with (test x) (flat_map f numbers)) (λ x. all_with (test x) (flat_map f (without numbers gone))) (f number) (λ x is. flat_with (test x) f numbers gone is) parts.across;
        }))
    by false parts rest = rest

-- none of them is it
pub none_with : (numbers : List ℕ) (gone : ℕ) → is_among gone numbers ≡ false → all_with (apart gone) numbers ≡ true
none_with [] gone none = refl
none_with (number ∷ numbers) gone none =
    let parts = or_parts (number == gone) (is_among gone numbers) none in
    and_from (apart gone number) (all_with (apart gone) numbers)
    (by (gone == number) refl parts.0) (none_with numbers gone parts.1)
  where
    by : (test : Bool) → (gone == number) ≡ test → (number == gone) ≡ false → not test ≡ true
    by false is differs = refl
    by true is differs = absurd (let yes_is : (number == gone) ≡ true = eq_to number gone (sym (eq_from gone number is)) in let never : ⊥ = cc in never)

-- one that is not among them leaves them
pub without_none : (numbers : List ℕ) (gone : ℕ) → is_among gone numbers ≡ false → without numbers gone ≡ numbers
without_none [] gone none = refl
without_none (number ∷ numbers) gone none =
    let parts = or_parts (number == gone) (is_among gone numbers) none in
    by (number == gone) parts.0 (without_none numbers gone parts.1)
  where
    by : (same : Bool) → same ≡ false → without numbers gone ≡ numbers → cond (not same) (number ∷ without numbers gone) (without numbers gone) ≡ number ∷ numbers
    by false is rest = ap (λ (xs : List ℕ). number ∷ xs) rest
    by true is rest = absurd (let never : ⊥ = cc in never)

apart_none : (numbers : List ℕ) (gone : ℕ) → all_with (apart gone) numbers ≡ true → is_among gone numbers ≡ false
apart_none [] gone all = refl
apart_none (number ∷ numbers) gone all =
    let parts = and_parts (apart gone number) (all_with (apart gone) numbers) all in
    by (number == gone) refl parts.0 (apart_none numbers gone parts.1)
  where
    by : (same : Bool) → (number == gone) ≡ same → apart gone number ≡ true → is_among gone numbers ≡ false → (same || is_among gone numbers) ≡ false
    by false is differs rest = rest
    by true is differs rest =
        absurd (let yes_is : (gone == number) ≡ true = eq_to gone number (sym (eq_from number gone is)) in let no_is : (gone == number) ≡ false = not-true (gone == number) differs in let never : ⊥ = cc in never)

-- one that is among numbers that are apart is there once
pub without_long : (numbers : List ℕ) (gone : ℕ) → each_pair apart numbers ≡ true → length (without numbers gone) + cond (is_among gone numbers) 1 0 ≡ length numbers
without_long [] gone all = refl
without_long (number ∷ numbers) gone all =
    let parts = and_parts (all_with (apart number) numbers) (each_pair apart numbers) all in by (number == gone) refl parts.0 (without_long numbers gone parts.1)
  where
    by : (same : Bool) → (number == gone) ≡ same → all_with (apart number) numbers ≡ true → length (without numbers gone) + cond (is_among gone numbers) 1 0 ≡ length numbers
        → length (cond (not same) (number ∷ without numbers gone) (without numbers gone)) + cond (same || is_among gone numbers) 1 0 ≡ length (number ∷ numbers)
    by false is others rest = let one : length (number ∷ without numbers gone) + cond (is_among gone numbers) 1 0 ≡ length (number ∷ numbers) = omega arith in one
    by true is others rest =
        let none : is_among gone numbers ≡ false = subst (λ (n : ℕ). is_among n numbers ≡ false) (eq_from number gone is) (apart_none numbers number others) in
        let left : length (without numbers gone) ≡ length numbers = ap length (without_none numbers gone none) in
        let one : length (without numbers gone) + 1 ≡ length (number ∷ numbers) = omega arith in
        one

pub without_pushed : (numbers : List ℕ) (gone : ℕ) → is_among gone numbers ≡ false → without (numbers ++ gone ∷ []) gone ≡ numbers
without_pushed [] gone none = by (gone == gone) (eq_to gone gone refl)
  where
    by : (same : Bool) → same ≡ true → cond (not same) (gone ∷ without [] gone) (without [] gone) ≡ []
    by true is = refl
    by false is = absurd (let never : ⊥ = cc in never)
without_pushed (number ∷ numbers) gone none =
    let parts = or_parts (number == gone) (is_among gone numbers) none in
    by (number == gone) parts.0 (without_pushed numbers gone parts.1)
  where
    by : (same : Bool) → same ≡ false → without (numbers ++ gone ∷ []) gone ≡ numbers → cond (not same) (number ∷ without (numbers ++ gone ∷ []) gone) (without (numbers ++ gone ∷ []) gone) ≡ number ∷ numbers
    by false is rest = ap (λ (xs : List ℕ). number ∷ xs) rest
    by true is rest = absurd (let never : ⊥ = cc in never)

-- where the numbers have the same
pub flat_same : (f g : ℕ → List ℕ) (numbers : List ℕ) (gone : ℕ) → ((number : ℕ) → number ≢ gone → f number ≡ g number) → all_with (apart gone) numbers ≡ true → flat_map f numbers ≡ flat_map g numbers
flat_same f g [] gone same all = refl
flat_same f g (number ∷ numbers) gone same all =
    let parts = and_parts (apart gone number) (all_with (apart gone) numbers) all in
    let differ : number ≢ gone = λ e. let yes_is : (gone == number) ≡ true = eq_to gone number (sym e) in let no_is : (gone == number) ≡ false = not-true (gone == number) parts.0 in let never : ⊥ = cc in never in
    flat_map-cons f number numbers
    ∙ (ap (λ (xs : List ℕ). xs ++ flat_map f numbers) (same number differ) ∙ (ap (λ (xs : List ℕ). g number ++ xs) (flat_same f g numbers gone same parts.1) ∙ sym (flat_map-cons g number numbers)))

pub all_same : (f g : ℕ → List ℕ) (numbers : List ℕ) (gone : ℕ) → ((number : ℕ) → number ≢ gone → f number ≡ g number) → all_with (apart gone) numbers ≡ true → list_all (λ number. length (g number) == 1) numbers ≡ true
    → list_all (λ number. length (f number) == 1) numbers ≡ true
all_same f g [] gone same all once = refl
all_same f g (number ∷ numbers) gone same all once =
    let parts = and_parts (apart gone number) (all_with (apart gone) numbers) all in
    let both = and_parts (length (g number) == 1) (list_all (λ other. length (g other) == 1) numbers) once in
    let differ : number ≢ gone = λ e. let yes_is : (gone == number) ≡ true = eq_to gone number (sym e) in let no_is : (gone == number) ≡ false = not-true (gone == number) parts.0 in let never : ⊥ = cc in never in
    and_from (length (f number) == 1) (list_all (λ other. length (f other) == 1) numbers) (ap (λ (xs : List ℕ). length xs == 1) (same number differ) ∙ both.0) (all_same f g numbers gone same parts.1 both.1)

-- without it none is it
pub gone_with : (numbers : List ℕ) (gone : ℕ) → all_with (apart gone) (without numbers gone) ≡ true
gone_with [] gone = refl
gone_with (number ∷ numbers) gone = by (number == gone) refl (gone_with numbers gone)
  where
    at : (test : Bool) → (gone == number) ≡ test → (number == gone) ≡ false → not test ≡ true
    at false differs is = refl
    at true same is = absurd (let yes_is : (number == gone) ≡ true = eq_to number gone (sym (eq_from gone number same)) in let never : ⊥ = cc in never)

    by : (same : Bool) → (number == gone) ≡ same → all_with (apart gone) (without numbers gone) ≡ true → all_with (apart gone) (cond (not same) (number ∷ without numbers gone) (without numbers gone)) ≡ true
    by true is rest = rest
    by false is rest = and_from (apart gone number) (all_with (apart gone) (without numbers gone)) (at (gone == number) refl is) rest

-- none of them is it, from each
pub none_each : (numbers : List ℕ) (gone : ℕ) → is_among gone numbers ≡ false → list_all (λ number. all_with (apart number) (gone ∷ [])) numbers ≡ true
none_each [] gone none = refl
none_each (number ∷ numbers) gone none =
    let parts = or_parts (number == gone) (is_among gone numbers) none in
    and_from (all_with (apart number) (gone ∷ [])) (list_all (λ other. all_with (apart other) (gone ∷ [])) numbers)
    (and_from (apart number gone) true (not_from_false (number == gone) parts.0) refl) (none_each numbers gone parts.1)

-- one that is among them passes what they pass
pub among_all : (test : ℕ → Bool) (numbers : List ℕ) (one : ℕ) → list_all test numbers ≡ true → is_among one numbers ≡ true → test one ≡ true
among_all test [] one all is = absurd (let none : ⊥ = cc in none)
among_all test (number ∷ numbers) one all is =
    let parts = and_parts (test number) (list_all test numbers) all in by (number == one) refl parts.0 is (λ rest. among_all test numbers one parts.1 rest)
  where
    by : (same : Bool) → (number == one) ≡ same → test number ≡ true → (same || is_among one numbers) ≡ true → (is_among one numbers ≡ true → test one ≡ true) → test one ≡ true
    by true same here is rest = subst (λ (n : ℕ). test n ≡ true) (eq_from number one same) here
    by false same here is rest = rest is
