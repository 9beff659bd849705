use Rattle.invariant_laws.proofs.losses.KeptAsks.{asks_law}
use Rattle.invariant_laws.proofs.request_laws.requests_ask_what_they_lost.Goals as goal

pub returns : goal.returns
returns c = asks_law
