use Rattle.std.proofs.Common.{subst, ap, sym, ◌∙◌}
use Rattle.svc_values.specs.declared.tables.Place.TheVariants as place
use Rattle.svc_values.specs.meaning.Tables.{rows_at}
use Rattle.table_store.specs.Rows.{rows_if_any}
use Rattle.table_store.specs.Stored.{Stored, AreKept}
use Rattle.table_store.proofs.Maps.{rows_of_table}
use Rattle.table_store.proofs.Keeps.{kept_from_stored}
use Rattle.table_store.proofs.tables.Tables.shelf.Goals as goal

pub returns-clause-rows : goal.returns-clause-rows
returns-clause-rows c =
    ap (λ (s : Stored). rows_at s.rows (place.Table c.args.table.now)) (sym c.self.view_is)
    ∙ rows_of_table c.self.inside.shelves.entries c.args.table.now c.self.invariant.shelved.0
    ∙ ap (rows_if_any c.args.table.now) (sym c.get.ensures.value)

pub returns-clause-kept : goal.returns-clause-kept
returns-clause-kept c = subst AreKept c.self.view_is (kept_from_stored c.self.inside.schemas c.self.inside.shelves.entries c.self.invariant)
