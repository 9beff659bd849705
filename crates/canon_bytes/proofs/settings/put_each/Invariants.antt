use Rattle.std.proofs.Common.{◌≡◌, ◌++◌}
use Rattle.std.specs.List.{flat_map, AllByRecursion}
use Rattle.svc_values.specs.meaning.SettingsList.{NamedValues}
use Rattle.svc_values.specs.SettingsList.{AreSettings}
use Rattle.canon_bytes.specs.meaning.SettingsBytes.{spell_setting}
use Rattle.canon_bytes.specs.SettingsBytes.{FitsSetting}
use Rattle.canon_bytes.proofs.settings.put_each.Given as goal

-- what has been written of the settings
abbrev pub invariant-loop-name : goal.invariant-loop-name
invariant-loop-name l = (done : NamedValues) × (done ++ l.name-iterator ≡ l.settings) × (l.out.items ≡ l.fn.out.items ++ flat_map spell_setting done) × AllByRecursion FitsSetting done × AreSettings l.settings
