use Rattle.std.proofs.Common.{◌≡◌, ◌++◌}
use Rattle.svc_values.specs.SettingsList.{AreSettings}
use Rattle.svc_values.proofs.settings.SettingsTryCopy.copy.Given as goal

abbrev pub invariant-loop-name : goal.invariant-loop-name
invariant-loop-name l = (l.copied ++ l.name-iterator ≡ l.self) × AreSettings l.self
