use Rattle.caused_laws.proofs.Judging.{judges_client}
use Rattle.caused_laws.proofs.laws.client_is_caused.Goals as goal

pub returns : goal.returns
returns c = judges_client
