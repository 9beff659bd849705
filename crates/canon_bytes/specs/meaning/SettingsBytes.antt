-- Settings: their number, and for each its name and its value, names rising by bytes.
use Rattle.std.specs.Prelude.{ℕ, zero, suc, Option, Some, None, List, [], ◌∷◌, ◌++◌, length, Result, Ok, Err, if◌then◌else◌}
use Rattle.svc_values.specs.declared.value.Value.{Value}
use Rattle.svc_values.specs.meaning.SettingsList.{NamedValues, rises}
use Rattle.canon_bytes.specs.meaning.Numbers.{u64_at}
use Rattle.canon_bytes.specs.meaning.TextBytes.{spell_bytes, name_at}
use Rattle.canon_bytes.specs.meaning.Lists.{spell_list}
use Rattle.canon_bytes.specs.meaning.Values.{spell_value, value_at}
use Rattle.canon_bytes.specs.meaning.Reading.{◌>>=◌}
use Rattle.canon_bytes.specs.declared.fault.Fault.{Fault}
use Rattle.canon_bytes.specs.declared.fault.Fault.TheVariants.{BadPart}

abbrev pub spell_setting : List ℕ × Value → List ℕ
spell_setting setting = spell_bytes setting.0 ++ spell_value setting.1

abbrev pub spell_settings : NamedValues → List ℕ
spell_settings settings = spell_list spell_setting settings

-- a setting behind the one with this name, if any; a name that does not rise is at fault from its
-- length on
unfoldable pub setting_at : Option (List ℕ) → List ℕ → Result ((List ℕ × Value) × List ℕ) Fault
setting_at before bytes = do
  name ← name_at bytes
  if rises before name.0 then (value_at name.1 >>= λ value. Ok ((name.0, value.0), value.1)) else
      Err (BadPart (length bytes))

-- that many settings behind the one with this name, if any
unfoldable pub settings_behind : Option (List ℕ) → ℕ → List ℕ → Result (NamedValues × List ℕ) Fault
settings_behind before zero bytes = Ok ([], bytes)
settings_behind before (suc n) bytes = do
  first ← setting_at before bytes
  others ← settings_behind (Some first.0.0) n first.1
  Ok (first.0 ∷ others.0, others.1)

unfoldable pub settings_at : List ℕ → Result (NamedValues × List ℕ) Fault
settings_at bytes = do
  n ← u64_at bytes
  settings_behind None n.0 n.1
