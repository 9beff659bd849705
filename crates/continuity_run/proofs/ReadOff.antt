-- The tables of a report are those of the journal, each by its declaration.
use Rattle.std.proofs.Common.{◌≡◌, ◌∙◌, ℕ, List, [], ◌∷◌, map, refl, ap}
use Rattle.svc_values.specs.declared.schema.Schema.{Schema}
use Rattle.svc_values.specs.declared.value.Value.{Value}
use Rattle.svc_values.specs.declared.tables.PlainRow.{PlainRow}
use Rattle.outage_schedule.specs.declared.report.ReportTable.{ReportTable}
use Rattle.commit_log.specs.declared.base.BaseTable.{BaseTable}
use Rattle.commit_log.specs.declared.journal.Journal.{Journal}
use Rattle.commit_log.specs.meaning.Bases.{schema_in, schemas_of, start_of}
use Rattle.table_store.specs.Given.{named, named_in}
use Rattle.table_store.specs.Stored.{Stored}
use Rattle.table_store.specs.declared.shelves.TableRows.{TableRows}
use Rattle.run_clauses.specs.meaning.Before.{tables_of}
use Rattle.run_clauses.specs.meaning.Serial.{printed_table, printed_tables}
use Rattle.server_model.specs.Core.{tables_with}
use Rattle.continuity_run.specs.Reading.{printed_by}

printed_each : (rows : List PlainRow) (tables : List BaseTable) → map (printed_by rows) (map schema_in tables) ≡ map (printed_table rows) tables
printed_each rows [] = refl
printed_each rows (table ∷ tables) = ap (λ (rest : List ReportTable). printed_table rows table ∷ rest) (printed_each rows tables)

pub tables_printed : (journal : Journal) (tables : Stored) (printed : List ReportTable) → tables.schemas ≡ schemas_of journal.base → tables.rows ≡ tables_with (start_of journal.base) journal.entries
    → printed ≡ map (printed_by tables.rows) tables.schemas → printed ≡ printed_tables journal.base (tables_of journal)
tables_printed journal tables printed declared rows is =
    is ∙ ap (map (printed_by tables.rows)) declared ∙ ap (λ (r : List PlainRow). map (printed_by r) (schemas_of journal.base)) rows ∙ printed_each (tables_of journal) journal.base.tables

-- a table that gave its rows up, as a report prints it
abbrev pub printed_of : TableRows → ReportTable
printed_of one = record { name = one.table; rows = one.rows.items }

abbrev of_named : List ℕ × List (List Value) → ReportTable
of_named one = record { name = one.0; rows = one.1 }

given_each : (all : List TableRows) → map printed_of all ≡ map of_named (map named all)
given_each [] = refl
given_each (one ∷ rest) = ap (λ (l : List ReportTable). printed_of one ∷ l) (given_each rest)

named_each : (rows : List PlainRow) (schemas : List Schema) → map of_named (map (named_in rows) schemas) ≡ map (printed_by rows) schemas
named_each rows [] = refl
named_each rows (schema ∷ rest) = ap (λ (l : List ReportTable). printed_by rows schema ∷ l) (named_each rows rest)

pub given_printed : (all : List TableRows) (rows : List PlainRow) (schemas : List Schema) → map named all ≡ map (named_in rows) schemas → map printed_of all ≡ map (printed_by rows) schemas
given_printed all rows schemas same = given_each all ∙ ap (map of_named) same ∙ named_each rows schemas
