use Rattle.svc_values.proofs.Local.{AreTables-with_writes, rows_at-written, rows_at-untouched}
use Rattle.svc_values.proofs.Writes.{with_writes-append}
use Rattle.svc_values.proofs.laws.writes_are_kept.Goals as goal

pub returns-clause-order : goal.returns-clause-order
returns-clause-order c = AreTables-with_writes

pub returns-clause-stand : goal.returns-clause-stand
returns-clause-stand c = rows_at-written

pub returns-clause-other : goal.returns-clause-other
returns-clause-other c = rows_at-untouched

pub returns-clause-parts : goal.returns-clause-parts
returns-clause-parts c = with_writes-append
