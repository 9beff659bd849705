use Rattle.std.proofs.Common.{◌≡◌, ◌∙◌, ap, map, subst, sym, List}
use Rattle.std.specs.Prelude.{IsTrue, IfOk}
use Rattle.std.specs.List.{list_all}
use Rattle.commit_log.specs.meaning.Bases.{schema_in, schemas_of}
use Rattle.svc_values.specs.declared.schema.Schema.{Schema}
use Rattle.table_store.specs.Given.{is_index_of}
use Rattle.serial_check.proofs.asked.indexes_for.Goals as goal

pub with_often_asked-requires : goal.with_often_asked-requires
with_often_asked-requires c =
    let declared : c.as_slice-2.result.now ≡ schemas_of c.args.base.now = c.as_slice-2.ensures.value ∙ (c.in_ok-schemas.ensures ∙ ap (map schema_in) c.as_slice.ensures.items) in
    subst (λ (schemas : List Schema). IsTrue (list_all (is_index_of schemas) c.args.first.items)) (sym declared) c.requires

pub returns : goal.returns
returns c =
    let declared : c.as_slice-2.result.now ≡ schemas_of c.args.base.now = c.as_slice-2.ensures.value ∙ (c.in_ok-schemas.ensures ∙ ap (map schema_in) c.as_slice.ensures.items) in
    subst (λ (schemas : List Schema). IfOk c.with_often_asked.result (λ all. IsTrue (list_all (is_index_of schemas) all.items))) declared c.with_often_asked.ensures
