use Rattle.server_model.proofs.Services.{service_runs}
use Rattle.server_model.proofs.laws.service_runs.Goals as goal

pub returns : goal.returns
returns c = service_runs
