use Rattle.server_model.proofs.Services.{service_stands}
use Rattle.server_model.proofs.laws.service_stands.Goals as goal

pub returns : goal.returns
returns c = service_stands
