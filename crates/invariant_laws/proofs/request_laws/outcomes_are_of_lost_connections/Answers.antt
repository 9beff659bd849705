use Rattle.invariant_laws.proofs.losses.KeptOutcomes.{outcomes_law}
use Rattle.invariant_laws.proofs.losses.KeptUnasked.{unasked_law}
use Rattle.invariant_laws.proofs.request_laws.outcomes_are_of_lost_connections.Goals as goal

pub returns-clause-lost : goal.returns-clause-lost
returns-clause-lost c = outcomes_law

pub returns-clause-unasked : goal.returns-clause-unasked
returns-clause-unasked c = unasked_law
