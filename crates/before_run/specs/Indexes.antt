-- The columns by which the tables of a document are indexed.
use Rattle.std.specs.Prelude.{ℕ, List, Option, flat_map}
use Rattle.std.specs.Option.{option_map, option_to_list}
use Rattle.svc_values.specs.meaning.Schemas.{column_of}
use Rattle.table_store.specs.declared.shelves.IndexOf.{IndexOf}
use Rattle.outage_schedule.specs.declared.document.DocTable.{DocTable}

-- the place of the column with this name, if the table has one
abbrev pub index_by : DocTable → List ℕ → Option IndexOf
index_by table name = option_map (λ at. record {
  table = table.name;
  column = at;
}) (column_of table.columns name)

-- the places of the columns that a table names in its index
abbrev pub indexes_in : DocTable → List IndexOf
indexes_in table = flat_map (λ name. option_to_list (index_by table name)) table.index

-- those of all tables
abbrev pub indexes_of : List DocTable → List IndexOf
indexes_of tables = flat_map indexes_in tables
