-- Tables as a report prints them.
use Rattle.std.specs.Prelude.{List, map}
use Rattle.svc_values.specs.declared.schema.Schema.{Schema}
use Rattle.svc_values.specs.declared.tables.PlainRow.{PlainRow}
use Rattle.svc_values.specs.declared.tables.Place.TheVariants as place
use Rattle.svc_values.specs.meaning.Tables.{rows_at}
use Rattle.table_store.specs.declared.shelves.TableRows.{TableRows}
use Rattle.outage_schedule.specs.declared.report.ReportTable.{ReportTable}

-- a table that was given back
abbrev pub print_given : TableRows → ReportTable
print_given one = record { name = one.table; rows = one.rows.items }

-- a declared table with its rows in order of key
abbrev pub print_in : List PlainRow → Schema → ReportTable
print_in rows schema = record {
  name = schema.name;
  rows = map (λ one. one.row) (rows_at rows (place.Table schema.name));
}
