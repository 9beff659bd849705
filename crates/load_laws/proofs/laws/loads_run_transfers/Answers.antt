use Rattle.load_laws.proofs.Owned.{run_transfers}
use Rattle.load_laws.proofs.laws.loads_run_transfers.Goals as goal

pub returns : goal.returns
returns c = run_transfers c.insides_tell_none.ensures
