use Rattle.load_laws.proofs.Totals.{keep_total}
use Rattle.load_laws.proofs.laws.loads_keep_total.Goals as goal

pub returns : goal.returns
returns c = keep_total c.loads_run_transfers.ensures c.serial_runs_keep_accounts.ensures
