use Rattle.std.proofs.Common.{Some}
use Rattle.svc_values.specs.meaning.Schemas.{schema_of}
use Rattle.table_store.proofs.Keeps.{kept_from_stored, stored_changed, seen_changed, fits_at}
use Rattle.table_store.proofs.Sought.{first_of_fit}
use Rattle.table_store.proofs.tables.Tables.put.Goals as goal

pub put-requires-clause-own : goal.put-requires-clause-own
put-requires-clause-own c =
    first_of_fit (schema_of c.args.self.now.schemas c.args.table.now) (record { table = c.args.table.now; key = c.args.key.now; row = c.args.row }) c.requires

pub invariant_of-self : goal.invariant_of-self
invariant_of-self c =
    stored_changed c.put.result c.self.inside.schemas c.self.inside.shelves.entries c.put.new.shelves.entries c.args.table.now c.args.key.now (Some c.args.row) c.self.invariant
    (fits_at c.self.inside.schemas c.self.inside.shelves.entries c.args.self.now c.args.table.now c.args.key.now c.args.row c.self.view_is c.requires) c.put.ensures.shelved c.put.ensures.ok c.put.ensures.err

pub returns-clause-ok : goal.returns-clause-ok
returns-clause-ok c =
    seen_changed c.put.result c.self.inside.schemas c.self.inside.shelves.entries c.put.new.shelves.entries c.args.self.now c.args.table.now c.args.key.now (Some c.args.row) c.self.view_is c.self.invariant.shelved c.put.ensures.shelved c.put.ensures.ok

pub returns-clause-kept : goal.returns-clause-kept
returns-clause-kept c = kept_from_stored c.self.inside.schemas c.put.new.shelves.entries (invariant_of-self c)
