use Rattle.std.proofs.Common.{rules}
use Rattle.table_txn.proofs.scanning.counted.Goals as goal

pub returns-in-None : goal.returns-in-None
returns-in-None c = search rules
