use Rattle.std.proofs.Common.{None}
use Rattle.table_store.proofs.Keeps.{kept_from_stored, stored_changed, seen_changed}
use Rattle.table_store.proofs.tables.Tables.take_away.Goals as goal

pub invariant_of-self : goal.invariant_of-self
invariant_of-self c =
    stored_changed c.take_away.result c.self.inside.schemas c.self.inside.shelves.entries c.take_away.new.shelves.entries c.args.table.now c.args.key.now None c.self.invariant
    tt c.take_away.ensures.shelved c.take_away.ensures.ok c.take_away.ensures.err

pub returns-clause-ok : goal.returns-clause-ok
returns-clause-ok c =
    seen_changed c.take_away.result c.self.inside.schemas c.self.inside.shelves.entries c.take_away.new.shelves.entries c.args.self.now c.args.table.now c.args.key.now None c.self.view_is c.self.invariant.shelved c.take_away.ensures.shelved c.take_away.ensures.ok

pub returns-clause-kept : goal.returns-clause-kept
returns-clause-kept c = kept_from_stored c.self.inside.schemas c.take_away.new.shelves.entries (invariant_of-self c)
