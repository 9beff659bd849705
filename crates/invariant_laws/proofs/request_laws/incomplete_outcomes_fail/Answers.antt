use Rattle.invariant_laws.proofs.losses.KeptFailed.{failed_law}
use Rattle.invariant_laws.proofs.request_laws.incomplete_outcomes_fail.Goals as goal

pub returns : goal.returns
returns c = failed_law
