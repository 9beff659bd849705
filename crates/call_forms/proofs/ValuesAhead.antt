-- Values and operands that were read from their tokens.
use Rattle.std.proofs.Common.{◌≡◌, ◌<◌, ℕ, ℤ, List, ◌∷◌, length, true, nat_le, w64, FitsSigned, Option, Some, None, Result, Ok, Err, refl, sym, ap, ◌∙◌}
use Rattle.std.specs.Prelude.{IfOk, IfSome, IsErrOf, ◌↔◌, if◌then◌else◌}
use Rattle.std.specs.Result.{result_ok}
use Rattle.std.proofs.lemmas.Bool.{le-leb, cases_lt}
use Rattle.std.proofs.Common.{⊎_elim}
use Rattle.json.specs.Token.{Token}
use Rattle.json.specs.Json.{parse_map}
use Rattle.serde_json.specs.Data.{Data, string, number, Members}
use Rattle.serde_json.specs.Find.{of_integer, as_object}
use Rattle.serde_json.specs.Read.{number_of}
use Rattle.json_form.specs.declared.fault.DocCode.TheVariants.{Limit}
use Rattle.json_form.specs.declared.hexadecimal.Digits.{Digits}
use Rattle.json_form.specs.meaning.Faults.{Fault, ◌>>=◌, here}
use Rattle.json_form.specs.Streams.{value_ahead, Begins}
use Rattle.svc_values.specs.declared.text.TextFault.{TextFault}
use Rattle.svc_values.specs.declared.text.TextFault.TheVariants.{TooLong}
use Rattle.svc_values.specs.declared.value.Value.{Value}
use Rattle.svc_values.specs.declared.value.Value.TheVariants as value
use Rattle.svc_values.specs.declared.statement.Operand.TheVariants as operand
use Rattle.call_forms.specs.meaning.Values.{line_of, value_of, operand_of, literal_or_named}
use Rattle.call_forms.specs.ValuesAhead.{IsPlain}
use Rattle.json_form.proofs.Offered.{string_ahead, number_ahead, integer_read}

abbrev made : List ℕ → Result (List ℕ) TextFault
made text = Ok text

-- a text that was made is short enough
short_enough : (text made_text : List ℕ) → (IsErrOf (made made_text) TooLong ↔ (64 < length text)) → nat_le (length text) 64 ≡ true
short_enough text made_text long = ⊎_elim (λ large. let never = long.1 large in absurd (cc)) (λ small. le-leb (length text) 64 small) (cases_lt 64 (length text))

line_read : (text line : List ℕ) → line ≡ text → (IsErrOf (made line) TooLong ↔ (64 < length text)) → line_of (string text) ≡ Ok line
line_read text line same long = ap (λ b. if b then Ok text else Err (here Limit)) (short_enough text line long) ∙ ap Ok (sym same)

-- a text that was made is what its token is read as
pub line_told : (text : List ℕ) (told : Result (List ℕ) TextFault) → IfOk told (λ line. line ≡ text) → (IsErrOf told TooLong ↔ (64 < length text)) → IfSome (result_ok told) (λ line. line_of (string text) ≡ Ok line)
line_told text (Err e) same long = tt
line_told text (Ok line) same long = line_read text line same long

pub line_begins : (depth : ℕ) (text : List ℕ) (ts r : List Token) (o : Option (List ℕ)) → ts ≡ Token.string text ∷ r → IfSome o (λ line. line_of (string text) ≡ Ok line) → IfSome o (λ line. Begins line_of depth ts line r)
line_begins depth text ts r None first read = tt
line_begins depth text ts r (Some line) first read = ap (λ ks. parse_map line_of (value_ahead depth ks)) first ∙ ap (parse_map line_of) (string_ahead depth text r) ∙ ap (λ q. Some (q, r)) read

pub text_plain : (text line : List ℕ) → line_of (string text) ≡ Ok line → IsPlain (Token.string text) (value.Text line)
unfolding value_of
text_plain text line read = (string text, λ depth rest. string_ahead depth text rest, refl, λ digits. ap (λ (q : Result (List ℕ) Fault). q >>= λ t. Ok (value.Text t)) read)

pub integer_plain : (text : List ℕ) (z : ℤ) → number_of text ≡ Some (of_integer z) → FitsSigned w64 z → IsPlain (Token.number text) (value.Int z)
unfolding value_of
integer_plain text z e fits =
    (number (of_integer z), λ depth rest. number_ahead depth text (of_integer z) rest e, refl, λ digits. ap (λ (q : Result ℤ Fault). q >>= λ n. Ok (value.Int n)) (integer_read z fits))

literal_read : (digits : Digits) (d : Data) (x : Value) (o : Option Members) → o ≡ None → value_of digits d ≡ Ok x → literal_or_named digits d o ≡ Ok (operand.Lit x)
literal_read digits d x None none read = ap (λ (q : Result Value Fault). q >>= λ y. Ok (operand.Lit y)) read
literal_read digits d x (Some ms) none read = absurd (cc)

pub literal_begins : (digits : Digits) (depth : ℕ) (token : Token) (ts r : List Token) (x : Value) → ts ≡ token ∷ r → IsPlain token x → Begins (operand_of digits) depth ts (operand.Lit x) r
unfolding operand_of
literal_begins digits depth token ts r x first plain =
    ap (λ ks. parse_map (operand_of digits) (value_ahead depth ks)) first ∙ ap (parse_map (operand_of digits)) (plain.1 depth r) ∙ ap (λ q. Some (q, r)) (literal_read digits plain.0 x (as_object plain.0) plain.2 (plain.3 digits))
