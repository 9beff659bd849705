use Rattle.load_laws.proofs.Serials.{runs_keep}
use Rattle.load_laws.proofs.laws.serial_runs_keep_accounts.Goals as goal

pub returns : goal.returns
returns c = runs_keep c.transfers_keep_accounts.ensures
