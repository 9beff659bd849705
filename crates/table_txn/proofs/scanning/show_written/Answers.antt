use Rattle.std.proofs.Common.{rules}
use Rattle.table_txn.proofs.scanning.show_written.Goals as goal

pub returns-in-None : goal.returns-in-None
returns-in-None c = search rules

pub returns-in-None-row : goal.returns-in-None-row
returns-in-None-row c = search rules

pub returns-in-Some-row : goal.returns-in-Some-row
returns-in-Some-row c = search rules
