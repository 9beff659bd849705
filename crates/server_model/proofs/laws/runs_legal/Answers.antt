use Rattle.server_model.proofs.walks.LegalWhole.{runs_legal}
use Rattle.server_model.proofs.laws.runs_legal.Goals as goal

pub returns : goal.returns
returns c = runs_legal
