use Rattle.std.proofs.Common.{◌≡◌, ◌∙◌, map, List, ap}
use Rattle.std.specs.Cmp.Lexicographic.{pointwise}
use Rattle.std.proofs.lemmas.Result.{IfOk-weaker}
use Rattle.svc_values.specs.declared.entry.Entry.{Entry}
use Rattle.commit_log.specs.meaning.Bases.{schemas_of, start_of}
use Rattle.outage_schedule.specs.declared.report.ReportTable.{ReportTable}
use Rattle.run_clauses.specs.meaning.Before.{tables_of}
use Rattle.run_clauses.specs.meaning.Serial.{same_report_table}
use Rattle.table_store.specs.Stored.{Stored}
use Rattle.journal_tables.specs.Written.{tables_with}
use Rattle.serial_check.specs.Printed.{print_in}
use Rattle.image_check.proofs.ImageLines.{printed_is}
use Rattle.image_check.proofs.image.has_tables.Goals as goal

pub returns : goal.returns
returns c =
    let journal = c.args.journal in
    let printed = c.args.report.now.tables in
    let tables = c.in_ok-tables.tables in
    let slice_in = c.as_slice.ensures in
    let view_in = c.entries.view_is in
    let slice_is : c.as_slice.result.now ≡ journal.entries = cc in
    IfOk-weaker c.are_printed.result _ _
    (λ has is. is
    ∙ (ap (λ (l : List ReportTable). pointwise same_report_table l (map (print_in tables.rows) tables.schemas)) c.as_slice-2.ensures
    ∙ (ap (λ (t : Stored). pointwise same_report_table printed (map (print_in t.rows) t.schemas)) c.in_ok-tables.ensures
    ∙ (ap (λ (l : List Entry). pointwise same_report_table printed (map (print_in (tables_with (start_of journal.base) l)) (schemas_of journal.base))) slice_is
    ∙ ap (λ (l : List ReportTable). pointwise same_report_table printed l) (printed_is (tables_of journal) journal.base.tables)))))
    c.are_printed.ensures
