use Rattle.invariant_laws.proofs.losses.KeptWanted.{wanted_law, next_law}
use Rattle.invariant_laws.proofs.request_laws.requests_want_what_they_lost.Goals as goal

pub returns-clause-lost : goal.returns-clause-lost
returns-clause-lost c = wanted_law

pub returns-clause-next : goal.returns-clause-next
returns-clause-next c = next_law
