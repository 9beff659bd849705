use Rattle.std.proofs.Common.{◌≡◌, List, ap, map, sym, ◌∙◌}
use Rattle.std.proofs.lemmas.Result.{IfOk-weaker}
use Rattle.svc_values.specs.declared.schema.Schema.{Schema}
use Rattle.table_store.specs.Given.{named_in, shelf_named}
use Rattle.table_store.specs.Stored.{Stored}
use Rattle.table_store.proofs.Emptied.{rows_named}
use Rattle.table_store.proofs.tables.Tables.into_rows.Goals as goal

pub returns : goal.returns
returns c =
    let shelves = c.self.inside.shelves.entries in
    let declared : map (shelf_named shelves) c.as_slice.result.now ≡ map (named_in c.args.self.rows) c.args.self.schemas =
    ap (λ (l : List Schema). map (shelf_named shelves) l) c.as_slice.ensures.items
    ∙ sym (rows_named shelves c.self.inside.schemas c.self.invariant.shelved.0)
    ∙ ap (λ (s : Stored). map (named_in s.rows) s.schemas) c.self.view_is in
    IfOk-weaker c.emptied.result _ _ (λ all made. made ∙ declared) c.emptied.ensures
