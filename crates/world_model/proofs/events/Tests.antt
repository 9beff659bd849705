-- Small facts on tests.
use Rattle.std.proofs.Common.{◌≡◌, refl, sym, ap, ◌∙◌, Bool, true, false, ℕ, ◌+◌, ◌≤◌, ◌<◌, ◌||◌, cond, List, [], ◌∷◌, ◌++◌, count_by, Option, Some, None, arith}
use Rattle.std.specs.Prelude.{◌==◌, nat_le, nat_lt, is_none, is_some}
use Rattle.std.specs.List.{list_all}
use Rattle.std.proofs.lemmas.Bool.{and_parts, and_from}
use Rattle.std.proofs.lemmas.Bool.Decides.{nat_tests}
use Rattle.std.proofs.lemmas.List.Sums.{sum_by_push}
use Rattle.svc_values.specs.declared.entry.SessionId.{SessionId}
use Rattle.svc_values.specs.meaning.Identifiers.{same_session}
use Rattle.world_model.specs.Parts.{implies}
use Rattle.world_model.specs.Sames.{all_with, each_pair}

-- NUMBERS -----------------------------------------------------------------------------------------

pub eq_from : (a b : ℕ) → (a == b) ≡ true → a ≡ b
eq_from a b is = grind (arith, nat_tests)

pub eq_to : (a b : ℕ) → a ≡ b → (a == b) ≡ true
eq_to a b is = grind (arith, nat_tests)

pub le_from : (a b : ℕ) → nat_le a b ≡ true → a ≤ b
le_from a b is = grind (arith, nat_tests)

pub le_to : (a b : ℕ) → a ≤ b → nat_le a b ≡ true
le_to a b is = grind (arith, nat_tests)

pub lt_from : (a b : ℕ) → nat_lt a b ≡ true → a < b
lt_from a b is = grind (arith, nat_tests)

pub lt_to : (a b : ℕ) → a < b → nat_lt a b ≡ true
lt_to a b is = grind (arith, nat_tests)

pub ne_to : (a b : ℕ) → a < b → (a == b) ≡ false
ne_to a b below = grind (arith, nat_tests)

pub ne_back : (a b : ℕ) → b < a → (a == b) ≡ false
ne_back a b below = grind (arith, nat_tests)

-- SESSIONS ----------------------------------------------------------------------------------------

pub same_session_is : (a b : SessionId) → same_session a b ≡ true → a ≡ b
same_session_is a b is = λ i. record { incarnation = one i; session = other i }
  where
    one : a.incarnation ≡ b.incarnation
    one = grind (arith, nat_tests)

    other : a.session ≡ b.session
    other = grind (arith, nat_tests)

pub session_self : (a : SessionId) → same_session a a ≡ true
session_self a = grind (arith, nat_tests)

-- BOOLEANS ----------------------------------------------------------------------------------------

pub or_false : (a : Bool) → (a || false) ≡ a
or_false true = refl
or_false false = refl

pub or_second : (a b : Bool) → a ≡ false → (a || b) ≡ true → b ≡ true
or_second true b is e = absurd (let none : ⊥ = cc in none)
or_second false b is e = e

pub not_both : (a : Bool) → a ≡ true → a ≡ false → ⊥
not_both true is e = let none : ⊥ = cc in none
not_both false is e = let none : ⊥ = cc in none

pub implied_by : (a b : Bool) → (a ≡ true → b ≡ true) → implies a b ≡ true
implied_by true b here = here refl
implied_by false b here = refl

pub implies_more : (a b c : Bool) → (b ≡ true → c ≡ true) → implies a b ≡ true → implies a c ≡ true
implies_more true b c more here = more here
implies_more false b c more here = refl

pub met : (a b : Bool) → implies a b ≡ true → a ≡ true → b ≡ true
met true b here is = here
met false b here is = absurd (let none : ⊥ = cc in none)

-- OPTIONS -----------------------------------------------------------------------------------------

pub none_is : {A : Type 0} (found : Option A) → is_none found ≡ true → found ≡ None
none_is None is = refl
none_is (Some x) is = absurd (let none : ⊥ = cc in none)

pub none_some : {A : Type 0} (one : Option A) → is_none one ≡ true → is_some one ≡ true → ⊥
none_some None is other = let none : ⊥ = cc in none
none_some (Some x) is other = let none : ⊥ = cc in none

pub none_first : {A B : Type 0} (y : A) → None ≡ Some y → B
none_first y is = absurd (let no : ⊥ = cc in no)

-- PAIRS -------------------------------------------------------------------------------------------

pub with_more : {A : Type 0} (test : A → Bool) (xs : List A) (x : A) → all_with test xs ≡ true → test x ≡ true → all_with test (xs ++ x ∷ []) ≡ true
with_more test [] x all here = and_from (test x) true here refl
with_more test (y ∷ ys) x all here =
    let parts = and_parts (test y) (all_with test ys) all in and_from (test y) (all_with test (ys ++ x ∷ [])) parts.0 (with_more test ys x parts.1 here)

-- one more, to which each stands so
pub pair_more : {A : Type 0} (test : A → A → Bool) (xs : List A) (x : A) → each_pair test xs ≡ true → list_all (λ y. test y x) xs ≡ true → each_pair test (xs ++ x ∷ []) ≡ true
pair_more test [] x pairs all = refl
pair_more test (y ∷ ys) x pairs all =
    let parts = and_parts (all_with (test y) ys) (each_pair test ys) pairs in
    let others = and_parts (test y x) (list_all (λ z. test z x) ys) all in
    and_from (all_with (test y) (ys ++ x ∷ [])) (each_pair test (ys ++ x ∷ [])) (with_more (test y) ys x parts.0 others.0) (pair_more test ys x parts.1 others.1)

-- COUNTS ------------------------------------------------------------------------------------------

pub one_if : (test : Bool) → test ≡ true → ◌≡◌ {A = ℕ} (cond test 1 0) 1
one_if true is = refl
one_if false is = absurd (let none : ⊥ = cc in none)

pub none_if : (test : Bool) → test ≡ false → ◌≡◌ {A = ℕ} (cond test 1 0) 0
none_if true is = absurd (let none : ⊥ = cc in none)
none_if false is = refl

pub count_more : {A : Type 0} (test : A → Bool) (xs : List A) (x : A) (count : ℕ) → (count == count_by test xs) ≡ true → (count + cond (test x) 1 0 == count_by test (xs ++ x ∷ [])) ≡ true
count_more test xs x count is =
    eq_to (count + cond (test x) 1 0) (count_by test (xs ++ x ∷ []))
    (ap (λ (n : ℕ). n + cond (test x) 1 0) (eq_from count (count_by test xs) is) ∙ sym (sum_by_push (λ y. cond (test y) 1 0) xs x))
