use Rattle.std.proofs.Common.{rules}
use Rattle.table_txn.proofs.found.is_same_row.Goals as goal

pub returns-in-None : goal.returns-in-None
returns-in-None c = search rules

pub returns-in-None-committed : goal.returns-in-None-committed
returns-in-None-committed c = search rules

pub returns-in-Some-committed : goal.returns-in-Some-committed
returns-in-Some-committed c = search rules
