-- Rows as they are given to tables and given back.
use Rattle.std.specs.Prelude.{ℕ, Bool, false, List, Option, Some, None, length, map, nat_lt}
use Rattle.std.specs.List.{flat_map}
use Rattle.svc_values.specs.declared.value.Value.{Value}
use Rattle.svc_values.specs.declared.tables.PlainRow.{PlainRow}
use Rattle.svc_values.specs.declared.schema.Schema.{Schema}
use Rattle.svc_values.specs.declared.tables.Place.TheVariants as place
use Rattle.svc_values.specs.meaning.Schemas.{key_of, schema_of}
use Rattle.svc_values.specs.meaning.Tables.{rows_at}
use Rattle.table_store.specs.Rows.{Keyed, Shelves, shelf_of, shelf_rows}
use Rattle.table_store.specs.declared.shelves.IndexOf.{IndexOf}
use Rattle.table_store.specs.declared.shelves.TableRows.{TableRows}

-- a row with its key
abbrev pub keyed : List Value → Value × List Value
keyed row = (key_of row, row)

-- the rows of a table, each with its key
abbrev pub plain_given : List ℕ → List (List Value) → List PlainRow
plain_given table rows = map (λ row. record { table = table; key = key_of row; row = row }) rows

-- all rows, one table after the other
abbrev pub plain : List TableRows → List PlainRow
plain tables = flat_map (λ one. plain_given one.table one.rows.items) tables

-- the place of a column
abbrev pub is_column_of : Option Schema → ℕ → Bool
is_column_of None column = false
is_column_of (Some schema) column = nat_lt column (length schema.columns)

-- the index is of a table that is declared, by one of its columns
abbrev pub is_index_of : List Schema → IndexOf → Bool
is_index_of schemas index = is_column_of (schema_of schemas index.table) index.column

-- the rows of a table in order of key, each with its key
abbrev pub keyed_rows : List PlainRow → List ℕ → Keyed
keyed_rows rows table = map (λ one. (one.key, one.row)) (rows_at rows (place.Table table))

-- the name of a table with its rows
abbrev pub named : TableRows → List ℕ × List (List Value)
named one = (one.table, one.rows.items)

-- the name of a declared table with its rows in order of key
abbrev pub named_in : List PlainRow → Schema → List ℕ × List (List Value)
named_in rows schema = (schema.name, map (λ one. one.row) (rows_at rows (place.Table schema.name)))

-- the same of the rows that are kept
abbrev pub shelf_named : Shelves → Schema → List ℕ × List (List Value)
shelf_named shelves schema = (schema.name, shelf_rows (shelf_of shelves schema.name))
