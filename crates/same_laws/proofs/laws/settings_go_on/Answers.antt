use Rattle.same_laws.proofs.SettingsOn.{settings_go_on}
use Rattle.same_laws.proofs.laws.settings_go_on.Goals as goal

pub returns : goal.returns
returns c = settings_go_on
