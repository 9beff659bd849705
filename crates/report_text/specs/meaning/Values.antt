-- Values in the document's form, rows, settings, identifiers and sessions.
use Rattle.std.specs.Prelude.{ℕ, List, [], ◌∷◌, codes}
use Rattle.serde_json.specs.Data.{Data}
use Rattle.hex.specs.Hex.{encode_lower}
use Rattle.json_form.specs.meaning.Writing.{text, whole, integer, list, list_by}
use Rattle.svc_values.specs.declared.value.Value.{Value}
use Rattle.svc_values.specs.declared.value.Value.TheVariants as value
use Rattle.svc_values.specs.declared.entry.Ltxid.{Ltxid}
use Rattle.svc_values.specs.declared.entry.SessionId.{SessionId}
use Rattle.report_text.specs.meaning.Parts.{one}

-- octets as digits in lower case
abbrev pub digits : List ℕ → Data
digits octets = text (encode_lower octets)

-- a number, a text, or {"hex":digits}
unfoldable pub literal_value : Value → Data
literal_value (value.Int n) = integer n
literal_value (value.Text t) = text t
literal_value (value.Bytes octets) = one (codes "hex") (digits octets)

abbrev pub row_value : List Value → Data
row_value row = list_by literal_value row

-- [name,value]
abbrev pub setting_value : List ℕ × Value → Data
setting_value (name, x) = list (text name ∷ literal_value x ∷ [])

-- in order of name
abbrev pub settings_value : List (List ℕ × Value) → Data
settings_value settings = list_by setting_value settings

-- [incarnation,session,number]
abbrev pub identifier_value : Ltxid → Data
identifier_value x = list (whole x.incarnation ∷ whole x.session ∷ whole x.number ∷ [])

-- [incarnation,session]
abbrev pub session_value : SessionId → Data
session_value s = list (whole s.incarnation ∷ whole s.session ∷ [])
