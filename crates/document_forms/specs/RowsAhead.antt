-- A row whose values are read one after the other.
use Rattle.std.specs.Prelude.{ℕ, List, [], Bool, Result}
use Rattle.serde_json.specs.Data.{Data}
use Rattle.json_form.specs.meaning.Faults.{Fault, ◌>>=◌}
use Rattle.json_form.specs.meaning.Arrays.{each_after, exact_of}
use Rattle.svc_values.specs.declared.value.Value.{Value}
use Rattle.document_forms.specs.meaning.Tables.{field_of}

-- so many values, of which the first is a new key, before their kinds are looked at
abbrev pub fields_of : (Value → Bool) → ℕ → Data → Result (List Value) Fault
fields_of taken n d = exact_of n d >>= each_after (field_of taken) []
