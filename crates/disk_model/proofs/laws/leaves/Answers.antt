use Rattle.disk_model.proofs.Moments.{leaves_since, leaves_now}
use Rattle.disk_model.proofs.laws.leaves.Goals as goal

pub returns : goal.returns
returns c = record { since = leaves_since; now = leaves_now }
