use Rattle.svc_values.proofs.Local.{rows_at-with_writes}
use Rattle.svc_values.proofs.laws.writes_are_local.Goals as goal

pub returns : goal.returns
returns c = rows_at-with_writes
