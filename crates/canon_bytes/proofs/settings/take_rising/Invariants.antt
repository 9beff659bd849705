use Rattle.std.proofs.Common.{◌≡◌, ◌++◌, ◌-◌, ◌≤◌, length}
use Rattle.std.specs.Prelude.{None}
use Rattle.std.specs.List.{flat_map, AllByRecursion}
use Rattle.svc_values.specs.SettingsList.{AreSettings}
use Rattle.canon_bytes.specs.meaning.SettingsBytes.{spell_setting, settings_behind}
use Rattle.canon_bytes.specs.SettingsBytes.{FitsSetting}
use Rattle.canon_bytes.proofs.SettingsLoop.{continued}
use Rattle.canon_bytes.proofs.settings.take_rising.Given as goal

abbrev pub invariant-loop : goal.invariant-loop
invariant-loop l = (continued l.settings (l.count - l.counter) l.rest ≡ settings_behind None l.count l.bytes)
    × (l.bytes ≡ flat_map spell_setting l.settings ++ l.rest)
    × AllByRecursion FitsSetting l.settings
    × (length l.settings ≡ l.counter)
    × (l.counter ≤ l.count)
    × AreSettings l.settings
