-- Texts of numbers, with a minus first or not.
use Rattle.std.proofs.Common.{◌≡◌, ◌==◌, ℕ, List, drop, get_or, ℤ, pos, true, false, Option, Some, None, Result, Ok, Err, sym, ap, ◌∙◌}
use Rattle.std.specs.Prelude.{IfSome}
use Rattle.std.specs.Result.{OkIff, result_ok}
use Rattle.fast_float.specs.Text.{scan}
use Rattle.serde_json.specs.Data.{Num, unsigned}
use Rattle.serde_json.specs.Find.{of_integer}
use Rattle.serde_json.specs.Read.{number_of, number_from}

-- a number that was found is that of each text which reads so
found : {X : Type 0} (seen : X → Num) (r : Option X) (one other : Option Num) → one ≡ other → IfSome r (λ n. one ≡ Some (seen n)) → IfSome r (λ n. other ≡ Some (seen n))
found seen None one other same h = h
found seen (Some n) one other same h = sym same ∙ h

pub behind_minus : {X : Type 0} (seen : X → Num) (s : List ℕ) (r : Option X) → (get_or s 0 0 == 45) ≡ true → IfSome r (λ n. number_from true (scan (drop 1 s)) ≡ Some (seen n)) → IfSome r (λ n. number_of s ≡ Some (seen n))
unfolding number_of
behind_minus seen s r minus h = found seen r (number_from true (scan (drop 1 s))) (number_of s) (rw minus) h

pub without_minus : {X : Type 0} (seen : X → Num) (s : List ℕ) (r : Option X) → (get_or s 0 0 == 45) ≡ false → IfSome r (λ n. number_from false (scan s) ≡ Some (seen n)) → IfSome r (λ n. number_of s ≡ Some (seen n))
unfolding number_of
without_minus seen s r none h = found seen r (number_from false (scan s)) (number_of s) (rw none) h

-- a number without a sign is one with a sign where it is small enough
pub small_enough : {E : Type 0} (P : Type 0) (s : List ℕ) (n : ℕ) (r : Result ℤ E) → number_of s ≡ Some (unsigned n) → OkIff r P (pos n) → IfSome (result_ok r) (λ z. number_of s ≡ Some (of_integer z))
small_enough P s n (Ok z) e h = e ∙ ap (λ k. Some (of_integer k)) (sym h.1)
small_enough P s n (Err x) e h = tt
