-- Settings in a report: their names rise.
use Rattle.std.specs.Prelude.{ℕ, ◌&&◌, Bool, true, List, Option, [], ◌∷◌, Some}
use Rattle.svc_values.specs.meaning.SettingsList.{NamedValues, rises}

-- each name is above the one before it
abbrev pub names_rise : Option (List ℕ) → NamedValues → Bool
names_rise before [] = true
names_rise before (pair ∷ pairs) = rises before pair.0 && names_rise (Some pair.0) pairs
