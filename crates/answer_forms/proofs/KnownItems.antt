-- Items that were read beside known ones.
use Rattle.std.proofs.Common.{◌≡◌, ◌≤◌, ℕ, List, [], ◌∷◌, ◌++◌, length, Some, Result, Ok, Err, ap, ◌∙◌, arith}
use Rattle.std.specs.Prelude.{if◌then◌else◌}
use Rattle.std.proofs.lemmas.Bool.{le-leb}
use Rattle.json.specs.Token.{Token}
use Rattle.json.specs.Json.{parse_map, after_end_array}
use Rattle.serde_json.specs.Data.{Data, array}
use Rattle.json_form.specs.declared.fault.DocCode.TheVariants.{Limit}
use Rattle.json_form.specs.declared.hexadecimal.Digits.{Digits}
use Rattle.json_form.specs.meaning.Faults.{Fault, ◌>>=◌, here, within_item}
use Rattle.json_form.specs.meaning.Arrays.{each_after}
use Rattle.json_form.specs.Streams.{value_ahead, items_ahead, Begins}
use Rattle.svc_values.specs.declared.value.Value.{Value}
use Rattle.svc_values.specs.declared.value.Value.TheVariants as value
use Rattle.call_forms.specs.meaning.Values.{value_of}
use Rattle.call_forms.specs.ValuesAhead.{IsPlain}
use Rattle.answer_forms.specs.meaning.Parts.{value_in, row_in}
use Rattle.answer_forms.specs.meaning.Answers.{rows_in}
use Rattle.json_form.proofs.Offered.{begun, read_ahead, bracket_ahead, array_read}
use Rattle.call_forms.proofs.Offered.{text_plain}

module _ {A : Type 0} (read : Data → Result A Fault) (depth : ℕ) where
  -- one item was read, and the others behind it
  pub one_then : (before : List A) (x : A) (ts r s : List Token) (xs : List A) → Begins read depth ts x r → parse_map (each_after (λ _. read) (before ++ x ∷ [])) (items_ahead depth r) ≡ Some (Ok xs, s)
      → parse_map (each_after (λ _. read) before) (items_ahead depth ts) ≡ Some (Ok xs, s)
  one_then before x ts r s xs begins h =
      let b = begun (each_after (λ _. read) (before ++ x ∷ [])) (items_ahead depth r) xs s h in
      let a = read_ahead read depth ts r s x b.0 begins b.1 in
      ap (parse_map (each_after (λ _. read) before)) a.1
      ∙ ap (λ (q : Result A Fault). Some (within_item (length before) q >>= λ y. each_after (λ _. read) (before ++ y ∷ []) b.0, s)) a.2 ∙ ap (λ q. Some (q, s)) b.2

  -- the bracket behind them was passed
  pub none_then : (before : List A) (ts r : List Token) → after_end_array ts ≡ Some r → parse_map (each_after (λ _. read) before) (items_ahead depth ts) ≡ Some (Ok before, r)
  none_then before ts r e = ap (parse_map (each_after (λ _. read) before)) (bracket_ahead depth ts r e)

-- ---- values

-- a text that is a known line
pub line_plain : (text line : List ℕ) → text ≡ line → length line ≤ 64 → IsPlain (Token.string text) (value.Text line)
line_plain text line same short =
    text_plain text line (ap (λ b. if b then Ok text else Err (here Limit)) (le-leb (length text) 64 (omega (arith, short, ap length same))) ∙ ap Ok same)

-- a value that a token alone is
pub plain_begins : (digits : Digits) (depth : ℕ) (token : Token) (ts r : List Token) (x : Value) → ts ≡ token ∷ r → IsPlain token x → Begins (value_of digits) depth ts x r
plain_begins digits depth token ts r x first plain =
    ap (λ ks. parse_map (value_of digits) (value_ahead depth ks)) first ∙ ap (parse_map (value_of digits)) (plain.1 depth r) ∙ ap (λ q. Some (q, r)) (plain.3 digits)

-- ---- rows

-- values that were read behind the bracket that begins a row
pub row_joined : (depth inside : ℕ) (ts begin s : List Token) (xs : List Value) → value_ahead depth ts ≡ parse_map array (items_ahead inside begin) → parse_map (each_after (λ _. value_in) []) (items_ahead inside begin) ≡ Some (Ok xs, s) → length xs ≤ 8 → Begins row_in depth ts xs s
row_joined depth inside ts begin s xs opens read few = ap (parse_map row_in) opens ∙ array_read (λ _. value_in) 8 (items_ahead inside begin) xs s few read

-- no row
pub no_rows : (depth inside : ℕ) (ts begin r : List Token) → value_ahead depth ts ≡ parse_map array (items_ahead inside begin) → after_end_array begin ≡ Some r → Begins rows_in depth ts [] r
no_rows depth inside ts begin r opens ends = ap (parse_map rows_in) opens ∙ array_read (λ _. row_in) 32 (items_ahead inside begin) [] r (omega arith) (none_then row_in inside [] begin r ends)

-- the first row, and those behind it
pub rows_joined : (depth inside : ℕ) (ts begin r s : List Token) (first : List Value) (xs : List (List Value)) → value_ahead depth ts ≡ parse_map array (items_ahead inside begin) → Begins row_in inside begin first r
    → parse_map (each_after (λ _. row_in) (first ∷ [])) (items_ahead inside r) ≡ Some (Ok xs, s) → length xs ≤ 32 → Begins rows_in depth ts xs s
rows_joined depth inside ts begin r s first xs opens begins behind few =
    ap (parse_map rows_in) opens ∙ array_read (λ _. row_in) 32 (items_ahead inside begin) xs s few (one_then row_in inside [] first begin r s xs begins behind)
