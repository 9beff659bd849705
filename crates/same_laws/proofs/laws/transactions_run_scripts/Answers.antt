use Rattle.once_laws.proofs.Offered.{scripts_ran}
use Rattle.same_laws.proofs.laws.transactions_run_scripts.Goals as goal

pub returns : goal.returns
returns c = scripts_ran
