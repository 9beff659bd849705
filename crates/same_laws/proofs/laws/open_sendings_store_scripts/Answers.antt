use Rattle.once_laws.proofs.Offered.{open_known}
use Rattle.same_laws.proofs.laws.open_sendings_store_scripts.Goals as goal

pub returns : goal.returns
returns c = open_known
