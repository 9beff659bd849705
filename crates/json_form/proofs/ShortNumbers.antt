-- The text of a number of 64 bits is that of no other number.
use Rattle.std.proofs.Common.{◌≡◌, ℕ, ℤ, pos, negsuc, zero, suc, ◌+◌, ◌/◌, ◌%◌, ◌^◌, ◌<◌, ◌≤◌, List, [], ◌∷◌, length, drop, false, Result, Ok, Err, w64, FitsSigned, refl, Some, decimal, ◌≢◌, ⊎_elim, sym, subst, ap, ◌∙◌, arith, ne_eqb}
use Rattle.std.specs.Fmt.{digits, digits_onto, digit_glyph, signed_decimal}
use Rattle.std.specs.Str.Parse.{AllDigits, digits_value}
use Rattle.std.proofs.lemmas.Bool.{cases_lt}
use Rattle.std.proofs.Math.Nat.{one-le-pow, pow-suc}
use Rattle.std.proofs.lemmas.Fmt.{decimal_is_IsNumeral, decimal_is_IsNumeral_wide, length-decimal-le}
use Rattle.std.specs.Prelude.{⊤}
use Rattle.std.proofs.ByRecursion.{All-push}
use Rattle.json.specs.Token.{Token}
use Rattle.json.specs.Written.{Written, Writes}
use Rattle.serde_json.specs.Data.{Num, unsigned, negative, float}
use Rattle.serde_json.specs.Read.{number_of}
use Rattle.serde_json.specs.Written.{number_text}
use Rattle.serde_json.proofs.Numbers.{number_of-decimal, number_of-negative}
use Rattle.json_form.specs.Numbers.{IsOf64Bits, IsShort, AreShort}
use Rattle.json_form.specs.Forms.{IsWhole}

pub number_back : (n : Num) → IsOf64Bits n → number_of (number_text n) ≡ Some n
number_back (unsigned n) short = number_of-decimal n short
number_back (negative (pos n)) short = elim short [ ]
number_back (negative (negsuc n)) short = number_of-negative n short
number_back (float x) short = elim short [ ]

-- a number of more digits than are written has as many as are
long : (k n : ℕ) (more : List ℕ) → 10 ^ k ≤ n → length (digits_onto k 10 false n more) ≡ k + length more
long zero n more large = omega arith
long (suc k) n more large =
    let some : 0 < 10 ^ k = one-le-pow k 10 (omega arith) in
    let next : n / 10 ≢ 0 = λ none. omega (arith, pow-suc 10 k) in
    rw (ne_eqb (n / 10) 0 next) (long k (n / 10) (digit_glyph false (n % 10) ∷ more) (omega (arith, pow-suc 10 k)) ∙ omega arith)

within : (n : ℕ) → length (decimal n) ≤ 21 → n < 10 ^ 64
unfolding digits
within n few = ⊎_elim (λ small. small) (λ large. absurd (omega (arith, few, long 64 n [] large))) (cases_lt n (10 ^ 64))

same_decimal : (m n : ℕ) → n < 2 ^ 64 → decimal m ≡ decimal n → m ≡ n
same_decimal m n short same =
    let few = length-decimal-le 20 n (omega arith) (omega arith) short in
    sym (decimal_is_IsNumeral_wide m (within m (omega (arith, ap length same)))).1 ∙ ap (digits_value 10) same ∙ (decimal_is_IsNumeral n short).1

no_minus : (n : ℕ) (ds : List ℕ) → n < 10 ^ 64 → decimal n ≢ 45 ∷ ds
no_minus n ds small same = omega (arith, (subst (AllDigits 10) same (decimal_is_IsNumeral_wide n small).0.1).0)

pub same_number : (m n : Num) → IsWhole m → IsOf64Bits n → number_text m ≡ number_text n → m ≡ n
same_number (unsigned m) (unsigned n) whole short same = ap unsigned (same_decimal m n short same)
same_number (unsigned m) (negative (pos n)) whole short same = elim short [ ]
same_number (unsigned m) (negative (negsuc n)) whole short same =
    let few = length-decimal-le 20 (suc n) (omega arith) (omega arith) (omega arith) in
    absurd (no_minus m _ (within m (omega (arith, few, ap length same))) same)
same_number (unsigned m) (float x) whole short same = elim short [ ]
same_number (negative (pos m)) n whole short same = elim whole [ ]
same_number (negative (negsuc m)) (unsigned n) whole short same = absurd (no_minus n _ (omega arith) (sym same))
same_number (negative (negsuc m)) (negative (pos n)) whole short same = elim short [ ]
same_number (negative (negsuc m)) (negative (negsuc n)) whole short same = ap (λ k. negative (negsuc k)) (omega (arith, same_decimal (suc m) (suc n) (omega arith) (ap (drop 1) same)))
same_number (negative (negsuc m)) (float x) whole short same = elim short [ ]
same_number (float x) n whole short same = elim whole [ ]

pub whole_short : (n : ℕ) → n < 2 ^ 64 → IsShort (Token.number (decimal n))
whole_short n short = (unsigned n, short, refl)

pub integer_short : (z : ℤ) → FitsSigned w64 z → IsShort (Token.number (signed_decimal z))
integer_short (pos n) fits = (unsigned n, omega (arith, fits.sfits), refl)
integer_short (negsuc n) fits = (negative (negsuc n), omega (arith, fits.sfits), refl)

-- a token that is written whole or not at all
pub written_short : {E : Type 0} (result : Result ⊤ E) (old new : Written) (t : Token) → Writes result old new t → IsShort t → (old.before ≡ []) × AreShort old.tokens → (new.before ≡ []) × AreShort new.tokens
written_short (Ok x) old new t wrote short held = (wrote.room.0 ∙ held.0, subst AreShort (sym wrote.ok) (All-push IsShort old.tokens t held.1 short))
written_short (Err e) old new t wrote short held = (wrote.room.0 ∙ held.0, subst AreShort (sym wrote.err) held.1)
