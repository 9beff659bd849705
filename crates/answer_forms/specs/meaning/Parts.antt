-- Small parts of a report: numbers, octets, values, calls, identifiers, settings and rows.
use Rattle.std.specs.Prelude.{ℕ, ◌^◌, ◌-◌, ◌==◌, List, [], length, Result, Ok, Err, ⊤, if◌then◌else◌}
use Rattle.serde_json.specs.Data.{Data}
use Rattle.json_form.specs.declared.fault.DocCode.TheVariants.{WrongKind, Rule}
use Rattle.json_form.specs.declared.hexadecimal.Digits.TheVariants as digits
use Rattle.json_form.specs.meaning.Faults.{Fault, ◌>>=◌, here, within_item}
use Rattle.json_form.specs.meaning.Values.{whole_of}
use Rattle.json_form.specs.meaning.Texts.{octets_of}
use Rattle.json_form.specs.meaning.Arrays.{each_of, each_after, array_of, list_of, fixed, part}
use Rattle.svc_values.specs.declared.value.Value.{Value}
use Rattle.svc_values.specs.declared.call.Call.{Call}
use Rattle.svc_values.specs.declared.entry.Ltxid.{Ltxid}
use Rattle.svc_values.specs.declared.entry.SessionId.{SessionId}
use Rattle.svc_values.specs.meaning.SettingsList.{NamedValues, rises, last_name}
use Rattle.call_forms.specs.meaning.Values.{in_limits, name_of, value_of}
use Rattle.call_forms.specs.meaning.Calls.{call_of}

-- a number of 64 bits without a sign
abbrev pub number_in : Data → Result ℕ Fault
number_in d = whole_of 0 (2 ^ 64 - 1) d

-- an array has exactly so many items
abbrev pub if_count : ℕ → ℕ → Result ⊤ Fault
if_count wanted count = if count == wanted then Ok tt else Err (here WrongKind)

-- octets, so many of them, in lower case
abbrev pub octets_in : ℕ → Data → Result (List ℕ) Fault
octets_in count d = octets_of digits.Lower d >>= λ bytes. in_limits (length bytes == count) bytes

-- values and calls have the document's form, their octets in lower case
abbrev pub value_in : Data → Result Value Fault
value_in d = value_of digits.Lower d

abbrev pub call_in : Data → Result Call Fault
call_in d = call_of digits.Lower d

-- [incarnation,session,number]
unfoldable pub identifier_in : Data → Result Ltxid Fault
identifier_in d =
    fixed 3 d >>= λ ds. part 0 number_in ds >>= λ incarnation. part 1 number_in ds >>= λ session.
    part 2 number_in ds >>= λ number.
    Ok (record { incarnation = incarnation; session = session; number = number })

abbrev pub identifiers_in : Data → Result (List Ltxid) Fault
identifiers_in d = list_of (each_of identifier_in) d

-- [incarnation,session]
unfoldable pub session_in : Data → Result SessionId Fault
session_in d =
    fixed 2 d >>= λ ds. part 0 number_in ds >>= λ incarnation. part 1 number_in ds >>= λ session.
    Ok (record { incarnation = incarnation; session = session })

abbrev pub sessions_in : Data → Result (List SessionId) Fault
sessions_in d = list_of (each_of session_in) d

-- the name is behind those before it
abbrev pub if_rising : NamedValues → List ℕ → Result ⊤ Fault
if_rising before name = if rises (last_name before) name then Ok tt else Err (here Rule)

-- [name,value], of which the name is judged first
unfoldable pub setting_in : NamedValues → Data → Result (List ℕ × Value) Fault
setting_in before d =
    fixed 2 d >>= λ ds. part 0 name_of ds >>= λ name. within_item 0 (if_rising before name) >>= λ _.
    part 1 value_in ds >>= λ x. Ok (name, x)

-- in order of name
abbrev pub settings_in : Data → Result NamedValues Fault
settings_in d = list_of (each_after setting_in []) d

-- a row of 0 to 8 values
abbrev pub row_in : Data → Result (List Value) Fault
row_in d = array_of 0 8 (each_of value_in) d
