use Rattle.std.proofs.Common.{rules}
use Rattle.table_txn.proofs.found.committed_at.Goals as goal

pub returns-in-Row : goal.returns-in-Row
returns-in-Row c = search rules

pub returns-in-Table : goal.returns-in-Table
returns-in-Table c = search rules
