use Rattle.std.proofs.Common.{◌≡◌, ◌∙◌, List, map, refl, sym, ap, subst}
use Rattle.std.specs.Prelude.{IsTrue}
use Rattle.std.specs.List.{list_all}
use Rattle.std.proofs.lemmas.Result.{IfOk-weaker}
use Rattle.svc_values.specs.declared.entry.Entry.{Entry}
use Rattle.commit_log.specs.declared.journal.Journal.{Journal}
use Rattle.commit_log.specs.meaning.Bases.{schemas_of, start_of}
use Rattle.run_clauses.specs.meaning.Before.{journal_before, tables_of}
use Rattle.run_clauses.specs.meaning.ServiceBase.{grants_of, service_base}
use Rattle.plain_items.specs.declared.item.Item.{Item}
use Rattle.plain_items.specs.Views.{item_as}
use Rattle.server_model.specs.meaning.Items.{Item as Plain}
use Rattle.server_model.specs.meaning.Legal.{items_hold}
use Rattle.server_model.specs.meaning.Walk.{walk_of}
use Rattle.before_run.specs.Indexes.{indexes_of}
use Rattle.before_run.proofs.Offered.{indexes_declared}
use Rattle.table_store.specs.declared.shelves.IndexOf.{IndexOf}
use Rattle.table_store.specs.Given.{is_index_of}
use Rattle.table_store.specs.Stored.{Stored}
use Rattle.journal_tables.specs.Written.{tables_with}
use Rattle.legal_walk.specs.Starting.{IsStart}
use Rattle.legal_walk.specs.declared.start.Start.{Start}
use Rattle.legal_check.proofs.Beginning.{base_from, shape_is}
use Rattle.legal_check.proofs.walked.wrong_item.Goals as goal

pub indexes_for-requires : goal.indexes_for-requires
indexes_for-requires c =
    let document = c.args.document.now in
    let declared = c.in_ok-declared.declared.items in
    let made : declared ≡ indexes_of document.tables = c.in_ok-declared.ensures ∙ ap indexes_of c.as_slice.ensures in
    subst (λ (journal : Journal). IsTrue (list_all (is_index_of (schemas_of journal.base)) declared)) (sym c.in_ok-before.ensures.is)
    (subst (λ (of : List IndexOf). IsTrue (list_all (is_index_of (schemas_of (journal_before document).base)) of)) (sym made) (indexes_declared document c.requires))

pub indexed_tables_of-requires-clause-indexes : goal.indexed_tables_of-requires-clause-indexes
indexed_tables_of-requires-clause-indexes c =
    let before = c.in_ok-before.before in
    subst (λ (of : List IndexOf). IsTrue (list_all (is_index_of (schemas_of before.base)) of)) (sym c.as_slice-4.ensures.value) c.in_ok-indexes.ensures

pub returns : goal.returns
returns c =
    let document = c.args.document.now in
    let base = service_base document in
    let keep = document.service.keep in
    let before = c.in_ok-before.before in
    let tables = c.in_ok-tables.tables in
    let names = c.in_ok-names.names in
    let entries_in : c.as_slice-3.result.now ≡ before.entries = (let slice_in = c.as_slice-3.ensures in let view_in = c.entries.view_is in cc) in
    let entries_is : c.as_slice-5.result.now ≡ before.entries = (let slice_in = c.as_slice-5.ensures in let view_in = c.entries.view_is in cc) in
    let blocked_is : c.as_slice-6.result.now ≡ before.blocked = (let slice_in = c.as_slice-6.ensures in let view_in = c.blocked.view_is in cc) in
    let declared : tables.schemas ≡ schemas_of before.base = ap (λ (t : Stored). t.schemas) c.in_ok-tables.ensures in
    let rows : tables.rows ≡ tables_of before =
    ap (λ (t : Stored). t.rows) c.in_ok-tables.ensures ∙ ap (tables_with (start_of before.base)) entries_in in
    let start : Start = record {
      tables = tables;
      names = names;
      sequences = c.in_ok-sequences.sequences;
      grants = grants_of keep;
      entries = c.as_slice-5.result;
      blocked = c.as_slice-6.result;
      incarnation = before.incarnation;
    } in
    let begins = subst (λ (journal : Journal). IsStart (base_from keep journal) start) c.in_ok-before.ensures.is (record {
      shape = shape_is before tables names declared c.in_ok-names.ensures;
      sequences = sym c.in_ok-sequences.ensures;
      grants = refl;
      tables = sym rows;
      entries = sym entries_is;
      blocked = sym blocked_is;
      incarnation = refl;
    }) in
    IfOk-weaker c.first_unlawful.result _ _
    (λ one holds. holds base begins
    ∙ (ap (λ (entries : List Entry). items_hold base (walk_of base entries) (map item_as c.as_slice-8.result.now)) c.as_slice-7.ensures
    ∙ (ap (λ (items : List Item). items_hold base (walk_of base c.args.report.now.entries) (map item_as items)) c.as_slice-8.ensures.value
    ∙ ap (λ (items : List Plain). items_hold base (walk_of base c.args.report.now.entries) items) c.in_ok-plain.ensures)))
    c.first_unlawful.ensures
