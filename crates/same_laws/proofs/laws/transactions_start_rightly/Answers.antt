use Rattle.same_laws.proofs.RunsStarts.{transactions_started}
use Rattle.same_laws.proofs.laws.transactions_start_rightly.Goals as goal

pub returns : goal.returns
returns c = transactions_started
