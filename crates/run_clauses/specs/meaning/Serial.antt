-- The entries of a report are a serial run, and its tables are those after it.
use Rattle.std.specs.Prelude.{◌≡◌, ◌&&◌, Bool, false, List, map, Option, Some, None}
use Rattle.std.specs.Str.{bytes_eq}
use Rattle.std.specs.Cmp.Lexicographic.{pointwise}
use Rattle.svc_values.specs.declared.tables.PlainRow.{PlainRow}
use Rattle.svc_values.specs.declared.tables.Place.TheVariants as place
use Rattle.svc_values.specs.meaning.Tables.{rows_at}
use Rattle.stmt_meaning.specs.meaning.Serial.{Serial}
use Rattle.stmt_meaning.specs.meaning.SerialTest.{serial_after}
use Rattle.commit_log.specs.declared.base.Base.{Base}
use Rattle.commit_log.specs.declared.base.BaseTable.{BaseTable}
use Rattle.outage_schedule.specs.declared.document.Document.{Document}
use Rattle.outage_schedule.specs.declared.report.Report.{Report}
use Rattle.outage_schedule.specs.declared.report.ReportTable.{ReportTable}
use Rattle.run_clauses.specs.meaning.Before.{journal_before, start, shape}
use Rattle.run_clauses.specs.meaning.Comparing.{same_printed_rows}

-- a table as a report prints it: its rows in order of key
abbrev pub printed_table : List PlainRow → BaseTable → ReportTable
printed_table tables table = record {
  name = table.schema.name;
  rows = map (λ one. one.row) (rows_at tables (place.Table table.schema.name));
}

-- each table of the base, in the base's order
abbrev pub printed_tables : Base → List PlainRow → List ReportTable
printed_tables base tables = map (printed_table tables) base.tables

abbrev pub same_report_table : ReportTable → ReportTable → Bool
same_report_table a b = bytes_eq a.name b.name && same_printed_rows a.rows b.rows

abbrev pub are_printed : Base → List ReportTable → Option (List PlainRow) → Bool
are_printed base printed None = false
are_printed base printed (Some tables) =
    pointwise same_report_table printed (printed_tables base tables)

-- the tables after the entries, if these are a serial run
abbrev pub tables_after : Document → Report → Option (List PlainRow)
tables_after document report = serial_after (shape document) (start document) report.entries

-- `Serial` of a report: its entries run one after the other from `Start`, and its tables are those
-- after the last.
abbrev pub serial : Document → Report → Bool
serial document report = are_printed (journal_before document).base report.tables
    (tables_after document report)

-- The same as a proposition, in which the runs of the service are proved: they give the tables
-- after the entries.
pub record IsSerial (document : Document) (report : Report) : Type 0 where
  pub after : List PlainRow
  pub runs : Serial (shape document) (start document) report.entries after
  pub printed : report.tables ≡ printed_tables (journal_before document).base after
