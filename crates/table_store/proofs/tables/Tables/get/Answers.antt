use Rattle.std.proofs.Common.{ap, sym, ◌∙◌}
use Rattle.svc_values.specs.declared.tables.Place.TheVariants as place
use Rattle.svc_values.specs.meaning.Tables.{rows_at}
use Rattle.table_store.specs.Rows.{row_if_any, keyed_if_any}
use Rattle.table_store.specs.Stored.{Stored}
use Rattle.table_store.proofs.Maps.{row_of_key}
use Rattle.table_store.proofs.tables.Tables.get.Goals as goal

pub returns-in-None : goal.returns-in-None
returns-in-None c =
    ap (λ (s : Stored). rows_at s.rows (place.Row c.args.table.now c.args.key.now)) (sym c.self.view_is)
    ∙ row_of_key c.self.inside.shelves.entries c.args.table.now c.args.key.now c.self.invariant.shelved
    ∙ ap (λ s. row_if_any c.args.table.now c.args.key.now (keyed_if_any s c.args.key.now)) (sym c.in-None.ensures.value)

pub returns-in-Some : goal.returns-in-Some
returns-in-Some c =
    ap (λ (s : Stored). rows_at s.rows (place.Row c.args.table.now c.args.key.now)) (sym c.self.view_is)
    ∙ row_of_key c.self.inside.shelves.entries c.args.table.now c.args.key.now c.self.invariant.shelved
    ∙ ap (λ s. row_if_any c.args.table.now c.args.key.now (keyed_if_any s c.args.key.now)) (sym c.in-Some.ensures.value)
    ∙ ap (row_if_any c.args.table.now c.args.key.now) (sym (rw c.rows.ensures.rows at c.get-in-Some.ensures))
