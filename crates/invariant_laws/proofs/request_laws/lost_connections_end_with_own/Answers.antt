use Rattle.invariant_laws.proofs.rows.KeptOwn.{own_law}
use Rattle.invariant_laws.proofs.request_laws.lost_connections_end_with_own.Goals as goal

pub returns : goal.returns
returns c = own_law
