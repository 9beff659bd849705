use Rattle.std.proofs.Common.{rules}
use Rattle.table_store.proofs.select.keys_sought.Goals as goal

pub returns-in-Ge-clause-from : goal.returns-in-Ge-clause-from
returns-in-Ge-clause-from c = search rules
