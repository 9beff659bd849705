use Rattle.invariant_laws.proofs.losses.KeptGone.{gone_law}
use Rattle.invariant_laws.proofs.request_laws.lost_connections_stay_shut.Goals as goal

pub returns : goal.returns
returns c = gone_law
