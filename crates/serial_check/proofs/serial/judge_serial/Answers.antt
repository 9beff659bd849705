use Rattle.std.proofs.Common.{◌≡◌, List, map, sym, ap, ◌∙◌, subst}
use Rattle.std.specs.Prelude.{IsTrue}
use Rattle.std.specs.List.{list_all}
use Rattle.std.proofs.lemmas.Result.{IfOk-weaker}
use Rattle.svc_values.specs.declared.entry.Entry.{Entry}
use Rattle.commit_log.specs.declared.base.Base.{Base}
use Rattle.commit_log.specs.declared.journal.Journal.{Journal}
use Rattle.commit_log.specs.meaning.Bases.{schemas_of, start_of, sequence_name}
use Rattle.outage_schedule.specs.declared.report.ReportTable.{ReportTable}
use Rattle.run_clauses.specs.meaning.Before.{journal_before, start}
use Rattle.before_run.specs.Indexes.{indexes_of}
use Rattle.before_run.proofs.Offered.{indexes_declared}
use Rattle.table_store.specs.declared.shelves.IndexOf.{IndexOf}
use Rattle.table_store.specs.Given.{is_index_of}
use Rattle.table_store.specs.Stored.{Stored}
use Rattle.table_txn.specs.Transactions.{shape_of}
use Rattle.journal_tables.specs.Written.{tables_with}
use Rattle.serial_check.specs.meaning.Places.{entries_course, table_place}
use Rattle.serial_check.specs.Printed.{print_in}
use Rattle.serial_check.specs.Replaying.{HasEnded}
use Rattle.serial_check.proofs.Serially.{serial_went}
use Rattle.serial_check.proofs.serial.judge_serial.Goals as goal

pub indexes_for-requires : goal.indexes_for-requires
indexes_for-requires c =
    let document = c.args.document.now in
    let declared = c.in_ok-declared.declared.items in
    let made : declared ≡ indexes_of document.tables = c.in_ok-declared.ensures ∙ ap indexes_of c.as_slice.ensures in
    subst (λ (journal : Journal). IsTrue (list_all (is_index_of (schemas_of journal.base)) declared)) (sym c.in_ok-base.ensures.is)
    (subst (λ (of : List IndexOf). IsTrue (list_all (is_index_of (schemas_of (journal_before document).base)) of)) (sym made) (indexes_declared document c.requires))

pub indexed_tables_of-requires-clause-indexes : goal.indexed_tables_of-requires-clause-indexes
indexed_tables_of-requires-clause-indexes c =
    subst (λ (of : List IndexOf). IsTrue (list_all (is_index_of (schemas_of c.in_ok-base.field-0.base)) of)) (sym c.as_slice-4.ensures.value) c.in_ok-indexes.ensures

pub returns : goal.returns
returns c =
    let document = c.args.document.now in
    let report = c.args.report.now in
    let before : Journal = journal_before document in
    let tables = c.in_ok-tables.tables in
    let names = c.in_ok-names.names in
    let new = c.failing_entry.new.tables in
    let place = c.in_ok-place.place in
    let from = c.in_ok-base.field-0 in
    let base_is : from.base ≡ before.base = ap (λ (j : Journal). j.base) c.in_ok-base.ensures.is in
    let of_entries = c.in_ok-base.entries-is in
    let entries_in : from.entries ≡ before.entries = ap (λ (j : Journal). j.entries) c.in_ok-base.ensures.is in
    let slice_in = c.as_slice-3.ensures in
    let slice_is : c.as_slice-3.result.now ≡ before.entries = cc in
    let declared : tables.schemas ≡ schemas_of before.base = ap (λ (t : Stored). t.schemas) c.in_ok-tables.ensures ∙ ap schemas_of base_is in
    let begun : tables.rows ≡ start document =
    ap (λ (t : Stored). t.rows) c.in_ok-tables.ensures
    ∙ (ap (tables_with (start_of from.base)) slice_is ∙ ap (λ (b : Base). tables_with (start_of b) before.entries) base_is) in
    let names_in = c.in_ok-names.ensures in
    let sequences_in : from.base.sequences ≡ before.base.sequences = ap (λ (b : Base). b.sequences) base_is in
    let named : names ≡ map sequence_name before.base.sequences = names_in ∙ ap (map sequence_name) sequences_in in
    let has = subst (λ (entries : List Entry). HasEnded tables (entries_course (shape_of tables names) tables.rows 0 entries) place new) c.as_slice-5.ensures c.in_ok-place.ensures in
    let went = serial_went document report names tables new place declared begun named has (sym c.if-is_some.ensures) in
    IfOk-weaker c.printed_otherwise.result _ _
    (λ found is. is ∙ (ap (λ (printed : List ReportTable). table_place 0 printed (map (print_in new.rows) new.schemas)) c.as_slice-6.ensures ∙ went)) c.printed_otherwise.ensures
