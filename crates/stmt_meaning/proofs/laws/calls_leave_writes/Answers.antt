use Rattle.stmt_meaning.proofs.MeanLocal.{mean-tables}
use Rattle.stmt_meaning.proofs.TablesFit.{mean-base}
use Rattle.stmt_meaning.proofs.laws.calls_leave_writes.Goals as goal

pub returns-clause-writes : goal.returns-clause-writes
returns-clause-writes c = mean-tables

pub returns-clause-tables : goal.returns-clause-tables
returns-clause-tables c = mean-base
