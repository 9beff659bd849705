use Rattle.std.proofs.Common.{rules}
use Rattle.table_txn.proofs.txn.Txn.take_back.Goals as goal

pub returns : goal.returns
returns c = search rules
