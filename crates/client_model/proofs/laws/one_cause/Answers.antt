use Rattle.client_model.proofs.Causes.{has_one_cause}
use Rattle.client_model.proofs.laws.one_cause.Goals as goal

pub returns : goal.returns
returns c = has_one_cause
