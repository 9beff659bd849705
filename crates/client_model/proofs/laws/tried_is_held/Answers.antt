use Rattle.client_model.proofs.Trying.{tries_under_held}
use Rattle.client_model.proofs.laws.tried_is_held.Goals as goal

pub returns : goal.returns
returns c = tries_under_held
