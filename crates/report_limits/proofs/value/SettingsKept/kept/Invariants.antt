use Rattle.std.specs.Prelude.{IsTrue}
use Rattle.report_limits.specs.meaning.Limits.{fits_settings}
use Rattle.report_text.specs.meaning.Octets.{SettingsOfBytes}
use Rattle.report_limits.proofs.value.SettingsKept.kept.Given as goal

-- those that are left keep to it, so all do
abbrev pub invariant-loop-name : goal.invariant-loop-name
invariant-loop-name l = (IsTrue (fits_settings l.name-iterator) → IsTrue (fits_settings l.self)) × (SettingsOfBytes l.name-iterator → SettingsOfBytes l.self)
