use Rattle.disk_model.proofs.Causes.{quiet_has_none}
use Rattle.disk_model.proofs.laws.quiet_has_no_fault.Goals as goal

pub returns : goal.returns
returns g c = quiet_has_none
