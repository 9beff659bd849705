-- Numbers that were read from their tokens.
use Rattle.std.proofs.Common.{◌≡◌, ℕ, ◌^◌, ◌≤◌, ℤ, pos, negsuc, List, ◌∷◌, true, nat_le, Some, Ok, Err, option_map, w64, FitsSigned, ap, ◌∙◌, arith}
use Rattle.std.specs.Prelude.{if◌then◌else◌}
use Rattle.std.proofs.lemmas.Bool.{lt-ltb, le-leb}
use Rattle.json.specs.Token.{Token}
use Rattle.json.specs.Json.{parse_map}
use Rattle.json.proofs.Grammar.{value_is}
use Rattle.serde_json.specs.Data.{Num, unsigned, number}
use Rattle.serde_json.specs.Find.{of_integer}
use Rattle.serde_json.specs.Read.{of_json, converted, number_of}
use Rattle.json_form.specs.declared.fault.DocCode.TheVariants.{Limit}
use Rattle.json_form.specs.meaning.Faults.{here}
use Rattle.json_form.specs.meaning.Values.{fits_i64, integer_of, whole_of}
use Rattle.json_form.specs.Streams.{value_ahead, Begins}
use Rattle.json_form.proofs.Readings.{both_true}

pub number_ahead : (depth : ℕ) (text : List ℕ) (n : Num) (ts : List Token) → number_of text ≡ Some n → value_ahead depth (Token.number text ∷ ts) ≡ Some (number n, ts)
number_ahead depth text n ts e = ap (converted of_json) (value_is depth (Token.number text ∷ ts)) ∙ ap (λ o. option_map (λ d. (d, ts)) (option_map number o)) e

fits : (z : ℤ) → FitsSigned w64 z → fits_i64 z ≡ true
fits (pos n) f = lt-ltb n (2 ^ 63) (omega (arith, f.sfits))
fits (negsuc n) f = lt-ltb n (2 ^ 63) (omega (arith, f.sfits))

-- a number of 64 bits with a sign is read as itself
pub integer_read : (z : ℤ) → FitsSigned w64 z → integer_of (number (of_integer z)) ≡ Ok z
unfolding integer_of
integer_read (pos n) f = ap (λ b. if b then Ok (pos n) else Err (here Limit)) (fits (pos n) f)
integer_read (negsuc n) f = ap (λ b. if b then Ok (negsuc n) else Err (here Limit)) (fits (negsuc n) f)

pub integer_begins : (depth : ℕ) (text : List ℕ) (z : ℤ) (ts r : List Token) → ts ≡ Token.number text ∷ r → number_of text ≡ Some (of_integer z) → FitsSigned w64 z → Begins integer_of depth ts z r
integer_begins depth text z ts r first e f =
    ap (λ ks. parse_map integer_of (value_ahead depth ks)) first ∙ ap (parse_map integer_of) (number_ahead depth text (of_integer z) r e) ∙ ap (λ q. Some (q, r)) (integer_read z f)

pub whole_begins : (low high depth : ℕ) (text : List ℕ) (n : ℕ) (ts r : List Token) → ts ≡ Token.number text ∷ r → number_of text ≡ Some (unsigned n) → low ≤ n → n ≤ high → Begins (whole_of low high) depth ts n r
unfolding whole_of
whole_begins low high depth text n ts r first e above below =
    ap (λ ks. parse_map (whole_of low high) (value_ahead depth ks)) first ∙ ap (parse_map (whole_of low high)) (number_ahead depth text (unsigned n) r e)
    ∙ ap (λ b. Some (if b then Ok n else Err (here Limit), r)) (both_true (nat_le low n) (nat_le n high) (le-leb low n above) (le-leb n high below))
