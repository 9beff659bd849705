-- How names, values and operands stand in a document, and with digits in lower case in a report.
use Rattle.std.specs.Prelude.{ℕ, List, [], ◌∷◌, length, Bool, nat_le, Option, Some, None, Result, Ok, Err, codes, if◌then◌else◌}
use Rattle.serde_json.specs.Data.{Data, Num, Members, no_members, member}
use Rattle.std.specs.Str.{bytes_eq}
use Rattle.serde_json.specs.Find.{as_str, as_number, as_object}
use Rattle.json_form.specs.declared.fault.DocCode.TheVariants.{Unknown, Limit}
use Rattle.json_form.specs.declared.hexadecimal.Digits.{Digits}
use Rattle.json_form.specs.meaning.Faults.{Fault, ◌>>=◌, here, within}
use Rattle.json_form.specs.meaning.Arrays.{fresh}
use Rattle.json_form.specs.meaning.Values.{integer_of, text_of}
use Rattle.json_form.specs.meaning.Objects.{object_with, required}
use Rattle.json_form.specs.meaning.Texts.{octets_of, word_of}
use Rattle.svc_values.specs.declared.value.Value.{Value}
use Rattle.svc_values.specs.declared.value.Value.TheVariants as value
use Rattle.svc_values.specs.declared.draw.DrawKind.{DrawKind}
use Rattle.svc_values.specs.declared.draw.DrawKind.TheVariants as kind
use Rattle.svc_values.specs.declared.statement.Operand.{Operand}
use Rattle.svc_values.specs.declared.statement.Operand.TheVariants as operand
use Rattle.svc_values.specs.meaning.Texts.{is_name}

abbrev pub in_limits : {A : Type 0} → Bool → A → Result A Fault
in_limits fits x = if fits then Ok x else Err (here Limit)

-- a text that is a name
unfoldable pub name_of : Data → Result (List ℕ) Fault
name_of d = text_of d >>= λ text. in_limits (is_name text) text

-- a name that does not stand before
abbrev pub new_name : (List ℕ → Bool) → Data → Result (List ℕ) Fault
new_name taken d = name_of d >>= λ name. fresh taken name >>= λ _. Ok name

-- at most 64 bytes
abbrev pub short : {A : Type 0} → (List ℕ → A) → List ℕ → Result A Fault
short make bytes = in_limits (nat_le (length bytes) 64) (make bytes)

-- a text of at most 64 bytes
abbrev pub line_of : Data → Result (List ℕ) Fault
line_of d = text_of d >>= short (λ text. text)

abbrev pub bytes_value : Digits → Data → Result Value Fault
bytes_value digits d = octets_of digits d >>= short value.Bytes

-- bytes stand as an object with the one member `hex`
unfoldable pub bytes_object : Digits → Data → Result Value Fault
bytes_object digits d = object_with (codes "hex" ∷ []) d >>= λ ms. required (codes "hex") ms >>=
    λ hex. within (codes "hex") (bytes_value digits hex)

abbrev pub number_or_bytes : Digits → Data → Option Num → Result Value Fault
number_or_bytes digits d None = bytes_object digits d
number_or_bytes digits d (Some n) = integer_of d >>= λ z. Ok (value.Int z)

abbrev pub text_or_other : Digits → Data → Option (List ℕ) → Result Value Fault
text_or_other digits d None = number_or_bytes digits d (as_number d)
text_or_other digits d (Some text) = line_of d >>= λ line. Ok (value.Text line)

-- a number is an integer, a text a text, and an object bytes
unfoldable pub value_of : Digits → Data → Result Value Fault
value_of digits d = text_or_other digits d (as_str d)

-- an object that has another number of members than one names nothing
abbrev pub only_member : Members → Result (List ℕ × Data) Fault
only_member (member name d no_members) = Ok (name, d)
only_member _ = Err (here Unknown)

abbrev pub draw_words : List (List ℕ × DrawKind)
draw_words = (codes "clock", kind.Clock) ∷ (codes "id", kind.Id) ∷ []

-- what the member of this name says
abbrev pub operand_named : Digits → List ℕ → Data → Result Operand Fault
operand_named digits name inner =
    if bytes_eq name (codes "hex") then (within name (bytes_value digits inner) >>= λ x.
    Ok (operand.Lit x)) else (
    if bytes_eq name (codes "var") then (within name (name_of inner) >>= λ n. Ok (operand.Var n))
    else (
    if bytes_eq name (codes "seq") then (within name (name_of inner) >>= λ n.
    Ok (operand.Draw (kind.Seq n))) else (
    if bytes_eq name (codes "draw") then
    (within name (word_of draw_words inner) >>= λ k. Ok (operand.Draw k)) else
    Err (here Unknown))))

abbrev pub literal_or_named : Digits → Data → Option Members → Result Operand Fault
literal_or_named digits d None = value_of digits d >>= λ x. Ok (operand.Lit x)
literal_or_named digits d (Some ms) = only_member ms >>= λ only. operand_named digits only.0 only.1

-- a value, or an object with one member that says where the value comes from
unfoldable pub operand_of : Digits → Data → Result Operand Fault
operand_of digits d = literal_or_named digits d (as_object d)
