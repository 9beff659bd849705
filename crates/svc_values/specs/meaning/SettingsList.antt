-- Settings as the list of their entries, names rising by bytes.
use Rattle.std.specs.Prelude.{ℕ, Bool, true, ◌&&◌, nat_eq, List, Option, Some, None, fold}
use Rattle.std.specs.Ordering.{nat_cmp, is_lt}
use Rattle.std.specs.Cmp.Lexicographic.{slice_cmp, pointwise}
use Rattle.std.specs.BTreeMap.{insert_entry, is_at}
use Rattle.std.specs.List.{last_or}
use Rattle.std.specs.Map.{keys_of, lookup}
use Rattle.svc_values.specs.declared.value.Value.{Value}
use Rattle.svc_values.specs.declared.call.Call.{Call}
use Rattle.svc_values.specs.declared.call.Call.TheVariants as call
use Rattle.svc_values.specs.meaning.Same.{same_value}

-- settings as they are seen: each name with its value
abbrev pub NamedValues : Type 0
NamedValues = List (List ℕ × Value)

abbrev pub put_setting : NamedValues → List ℕ → Value → NamedValues
put_setting settings name value = insert_entry (slice_cmp nat_cmp) settings name value

abbrev pub setting_of : NamedValues → List ℕ → Option Value
setting_of settings name = lookup (is_at (slice_cmp nat_cmp name)) settings

-- the last name, if there is one
abbrev pub last_name : NamedValues → Option (List ℕ)
last_name settings = last_or None (keys_of settings)

-- whether a name is above the one before it, if there is one before it
abbrev pub rises : Option (List ℕ) → List ℕ → Bool
rises None name = true
rises (Some before) name = is_lt (slice_cmp nat_cmp before name)

-- the same names, in the same order, with the same values
abbrev pub same_settings : NamedValues → NamedValues → Bool
same_settings = pointwise (λ a b. pointwise nat_eq a.0 b.0 && same_value a.1 b.1)

-- the settings after a call: a `set` changes one
abbrev pub with_set : NamedValues → Call → NamedValues
with_set settings (call.Set name value) = put_setting settings name value
with_set settings _ = settings

-- the settings after each of these calls, in order
abbrev pub with_sets : NamedValues → List Call → NamedValues
with_sets settings calls = fold with_set settings calls
