use Rattle.invariant_laws.proofs.losses.KeptPending.{pending_law}
use Rattle.invariant_laws.proofs.request_laws.one_outcome_is_pending.Goals as goal

pub returns : goal.returns
returns c = pending_law
