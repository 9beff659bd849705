-- Of digits no other octets are read than those that were written.
use Rattle.std.proofs.Common.{◌≡◌, ℕ, ◌+◌, ◌*◌, ◌/◌, ◌%◌, ◌⊎◌, inl, inr, List, [], ◌∷◌, Option, Some, None, Result, Ok, Err, refl, sym, subst, ap, arith, slice_index}
use Rattle.std.proofs.lemmas.Bool.{cases_lt}
use Rattle.std.proofs.lemmas.List.{get_or_past}
use Rattle.hex.specs.Hex.{encode_lower, encode_with, lower_digits, hex_digit_value, digit_or_error, value_at, pair_value, decode_pairs, ◌>>=◌}
use Rattle.hex.specs.declared.error.FromHexError.{FromHexError}
use Rattle.hex.proofs.HexLemmas.{IsDigits-lower_digits, length-encode_with, decode_of-even}
use Rattle.json_form.specs.declared.hexadecimal.Digits.TheVariants as case
use Rattle.json_form.specs.meaning.Texts.{octets_or_fault, octets_of}
use Rattle.report_text.specs.meaning.Values.{digits}
use Rattle.reading_laws.proofs.ListsBack.{no_capitals}
use Rattle.reading_laws.proofs.OrFault.{OrFault}

-- this, or an error
abbrev OrError : {A : Type 0} → A → Result A FromHexError → Type 0
OrError x (Ok y) = y ≡ x
OrError x (Err e) = Unit {0}

and_then : {A B : Type 0} (r : Result A FromHexError) (f : A → Result B FromHexError) (x : A) (y : B) → OrError x r → OrError y (f x) → OrError y (r >>= f)
and_then (Ok z) f x y same next = subst (λ z. OrError y (f z)) (sym same) next
and_then (Err e) f x y same next = tt

-- a digit is read as its place in the table, and beside the table there is none
digit_is : (n : ℕ) → (hex_digit_value (slice_index lower_digits n) ≡ Some n) ⊎ (hex_digit_value (slice_index lower_digits n) ≡ None)
digit_is n = elim (cases_lt n 16) [
  | inl below ↦ inl (IsDigits-lower_digits n below)
  | inr past ↦ inr (ap hex_digit_value (get_or_past lower_digits n 0 past))
]

digit_so : (n i : ℕ) → OrError n (value_at (slice_index lower_digits n) i)
digit_so n i = elim (digit_is n) [
  | inl is ↦ subst (λ (o : Option ℕ). OrError n (digit_or_error (slice_index lower_digits n) i o)) (sym is) refl
  | inr none ↦ subst (λ (o : Option ℕ). OrError n (digit_or_error (slice_index lower_digits n) i o)) (sym none) tt
]

byte_so : (b i : ℕ) → OrError b (pair_value (slice_index lower_digits (b / 16)) (slice_index lower_digits (b % 16)) i)
byte_so b i =
    let whole : b / 16 * 16 + b % 16 ≡ b = omega arith in
    and_then (value_at (slice_index lower_digits (b / 16)) i) _ (b / 16) b (digit_so (b / 16) i)
    (and_then (value_at (slice_index lower_digits (b % 16)) (i + 1)) _ (b % 16) b (digit_so (b % 16) (i + 1)) whole)

pairs_so : (i : ℕ) (octets : List ℕ) → OrError octets (decode_pairs i (encode_with lower_digits octets))
unfolding encode_with decode_pairs
pairs_so i [] = refl
pairs_so i (b ∷ octets) =
    and_then (pair_value (slice_index lower_digits (b / 16)) (slice_index lower_digits (b % 16)) i) _ b (b ∷ octets) (byte_so b i)
    (and_then (decode_pairs (i + 2) (encode_with lower_digits octets)) _ octets (b ∷ octets) (pairs_so (i + 2) octets) refl)

or_octets : (octets : List ℕ) (r : Result (List ℕ) FromHexError) → OrError octets r → OrFault octets (octets_or_fault r)
or_octets octets (Ok others) same = same
or_octets octets (Err e) same = tt

pub octets_so : (octets : List ℕ) → OrFault octets (octets_of case.Lower (digits octets))
octets_so octets =
    let long = length-encode_with lower_digits octets in
    let even = decode_of-even (encode_lower octets) (omega (arith, long)) in
    rw (no_capitals octets, even) (or_octets octets (decode_pairs 0 (encode_lower octets)) (pairs_so 0 octets))
