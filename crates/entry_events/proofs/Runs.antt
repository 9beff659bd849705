-- A run of a list that is all that meets a test.
use Rattle.std.proofs.Common.{◌≡◌, refl, sym, ap, ◌∙◌, ℕ, zero, suc, ◌<◌, ◌≤◌, Bool, true, false, length, get_or, take, drop, List, [], ◌∷◌, arith}
use Rattle.std.specs.Prelude.{if◌then◌else◌}
use Rattle.std.specs.List.{filter}

-- those from one place up to another, and no others, meet it
pub record IsRun {A : Type 0} (test : A → Bool) (xs : List A) (start end : ℕ) : Type 0 where
  pub before : (k : ℕ) (d : A) → k < length xs → k < start → test (get_or xs k d) ≡ false
  pub within : (k : ℕ) (d : A) → k < length xs → start ≤ k → k < end → test (get_or xs k d) ≡ true
  pub behind : (k : ℕ) (d : A) → k < length xs → end ≤ k → test (get_or xs k d) ≡ false

nothing_left : {A : Type 0} → (n : ℕ) → ◌≡◌ {A = List A} (drop n []) []
nothing_left zero = refl
nothing_left (suc n) = refl

filter_from : {A : Type 0} (test : A → Bool) (x : A) (xs : List A) (b : Bool) → test x ≡ b → filter test (x ∷ xs) ≡ (if b then x ∷ filter test xs else filter test xs)
filter_from test x xs true is = rw is refl
filter_from test x xs false is = rw is refl

pub run_is : {A : Type 0} (test : A → Bool) (xs : List A) (start end : ℕ) → IsRun test xs start end → filter test xs ≡ drop start (take end xs)
run_is test [] start zero is = sym (nothing_left start)
run_is test [] start (suc end) is = sym (nothing_left start)
run_is test (x ∷ xs) zero zero is =
    filter_from test x xs false (is.behind 0 x (omega arith) (omega arith))
    ∙ run_is test xs zero zero (record {
      before = λ k d in_range below. is.before (suc k) d (omega (arith, in_range)) (omega (arith, below));
      within = λ k d in_range above below. is.within (suc k) d (omega (arith, in_range)) (omega (arith, above)) (omega (arith, below));
      behind = λ k d in_range above. is.behind (suc k) d (omega (arith, in_range)) (omega (arith, above));
    })
run_is test (x ∷ xs) zero (suc end) is =
    filter_from test x xs true (is.within 0 x (omega arith) (omega arith) (omega arith))
    ∙ ap (λ rest. x ∷ rest) (run_is test xs zero end (record {
      before = λ k d in_range below. absurd (omega (arith, below));
      within = λ k d in_range above below. is.within (suc k) d (omega (arith, in_range)) (omega arith) (omega (arith, below));
      behind = λ k d in_range above. is.behind (suc k) d (omega (arith, in_range)) (omega (arith, above));
    }))
run_is test (x ∷ xs) (suc start) zero is =
    filter_from test x xs false (is.before 0 x (omega arith) (omega arith))
    ∙ (run_is test xs start zero (record {
      before = λ k d in_range below. is.before (suc k) d (omega (arith, in_range)) (omega (arith, below));
      within = λ k d in_range above below. absurd (omega (arith, below));
      behind = λ k d in_range above. is.behind (suc k) d (omega (arith, in_range)) (omega arith);
    })
    ∙ nothing_left start)
run_is test (x ∷ xs) (suc start) (suc end) is =
    filter_from test x xs false (is.before 0 x (omega arith) (omega arith))
    ∙ run_is test xs start end (record {
      before = λ k d in_range below. is.before (suc k) d (omega (arith, in_range)) (omega (arith, below));
      within = λ k d in_range above below. is.within (suc k) d (omega (arith, in_range)) (omega (arith, above)) (omega (arith, below));
      behind = λ k d in_range above. is.behind (suc k) d (omega (arith, in_range)) (omega (arith, above));
    })
