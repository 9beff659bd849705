use Rattle.load_laws.proofs.Transfers.{call_keeps}
use Rattle.load_laws.proofs.laws.transfers_keep_accounts.Goals as goal

pub returns : goal.returns
returns c = call_keeps
