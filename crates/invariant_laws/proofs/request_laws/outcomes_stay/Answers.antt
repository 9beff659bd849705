use Rattle.invariant_laws.proofs.rows.KeptStands.{stands_law}
use Rattle.invariant_laws.proofs.request_laws.outcomes_stay.Goals as goal

pub returns : goal.returns
returns c = stands_law
