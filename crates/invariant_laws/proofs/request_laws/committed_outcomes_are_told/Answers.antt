use Rattle.invariant_laws.proofs.losses.KeptTold.{told_law}
use Rattle.invariant_laws.proofs.request_laws.committed_outcomes_are_told.Goals as goal

pub returns : goal.returns
returns c = told_law
