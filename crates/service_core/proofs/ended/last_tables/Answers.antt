use Rattle.std.proofs.Common.{rules}
use Rattle.service_core.proofs.ended.last_tables.Goals as goal

pub returns-clause-tables : goal.returns-clause-tables
returns-clause-tables g c = search rules
