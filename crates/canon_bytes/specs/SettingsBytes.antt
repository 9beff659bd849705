-- Settings: their number, and for each its name and its value, names rising by bytes.
-- Here is what contracts and proofs say of it besides.
use Rattle.std.specs.Prelude.{ℕ, List}
use Rattle.svc_values.specs.declared.value.Value.{Value}
use Rattle.svc_values.specs.meaning.SettingsList.{NamedValues}
use Rattle.svc_values.specs.SettingsList.{AreSettings}
use Rattle.canon_bytes.specs.TextBytes.{FitsName}
use Rattle.canon_bytes.specs.Lists.{FitsListed}
use Rattle.canon_bytes.specs.Values.{FitsValue}

abbrev pub FitsSetting : List ℕ × Value → Type 0
FitsSetting setting = FitsName setting.0 × FitsValue setting.1

abbrev pub FitsSettings : NamedValues → Type 0
FitsSettings settings = AreSettings settings × FitsListed FitsSetting settings
