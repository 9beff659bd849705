use Rattle.std.proofs.Common.{rules}
use Rattle.table_txn.proofs.txn.Txn.roll_back.Goals as goal

pub returns-clause-empty : goal.returns-clause-empty
returns-clause-empty c = search rules

pub returns-clause-no_reads : goal.returns-clause-no_reads
returns-clause-no_reads c = search rules
