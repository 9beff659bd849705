use Rattle.std.proofs.Common.{subst}
use Rattle.table_store.specs.Stored.{AreKept}
use Rattle.table_store.proofs.Keeps.{kept_from_stored}
use Rattle.table_store.proofs.tables.Tables.write.Goals as goal

pub returns-in_err-row-in-Some-clause-kept : goal.returns-in_err-row-in-Some-clause-kept
returns-in_err-row-in-Some-clause-kept c = subst AreKept c.self.view_is (kept_from_stored c.self.inside.schemas c.self.inside.shelves.entries c.self.invariant)
