-- What a store begins with: the tables with their rows, and the sequences.
use Rattle.std.specs.Prelude.{ℕ, pos, ◌&&◌, Bool, true, not, List, [], ◌∷◌, map, int_le}
use Rattle.std.specs.List.{flat_map, list_all, list_any}
use Rattle.svc_values.specs.declared.value.Value.{Value}
use Rattle.svc_values.specs.declared.schema.Schema.{Schema}
use Rattle.svc_values.specs.declared.schema.Shape.{Shape}
use Rattle.svc_values.specs.meaning.Kinds.{row_fits}
use Rattle.svc_values.specs.meaning.Same.{same_value}
use Rattle.svc_values.specs.meaning.Schemas.{is_declared, key_of}
use Rattle.svc_values.specs.declared.tables.PlainRow.{PlainRow}
use Rattle.svc_values.specs.meaning.Names.{names_differ}
use Rattle.svc_values.specs.meaning.Tables.{in_order}
use Rattle.commit_log.specs.declared.base.Base.{Base}
use Rattle.commit_log.specs.declared.base.BaseTable.{BaseTable}
use Rattle.commit_log.specs.declared.base.BaseSequence.{BaseSequence}

-- no two rows have one key
abbrev pub keys_differ : List (List Value) → Bool
keys_differ [] = true
keys_differ (row ∷ rows) = not (list_any (λ other. same_value (key_of other) (key_of row)) rows)
    && keys_differ rows

-- a table is declared, each row has a value of its kind for each column, and no key stands twice
unfoldable pub is_table : BaseTable → Bool
is_table table = is_declared table.schema
    && (list_all (row_fits table.schema.columns) table.rows && keys_differ table.rows)

-- a sequence begins at 0 to 1,000,000,000
abbrev pub is_sequence : BaseSequence → Bool
is_sequence sequence = int_le (pos 0) sequence.start && int_le sequence.start (pos 1000000000)

abbrev pub table_name : BaseTable → List ℕ
table_name table = table.schema.name

abbrev pub sequence_name : BaseSequence → List ℕ
sequence_name sequence = sequence.name

-- What a store may begin with: no two tables and no two sequences have one name.
unfoldable pub is_base : Base → Bool
is_base base = names_differ (map table_name base.tables)
    && (names_differ (map sequence_name base.sequences)
    && (list_all is_table base.tables && list_all is_sequence base.sequences))

abbrev pub schema_in : BaseTable → Schema
schema_in table = table.schema

-- the declarations
abbrev pub schemas_of : Base → List Schema
schemas_of base = map schema_in base.tables

-- what exists, whatever the rows
abbrev pub shape_of : Base → Shape
shape_of base = record { schemas = schemas_of base; sequences = map sequence_name base.sequences }

-- the rows, each with its table and key, in the order of table and key
abbrev pub rows_of : BaseTable → List PlainRow
rows_of table = map (λ row. record {
  table = table.schema.name;
  key = key_of row;
  row = row;
}) table.rows

abbrev pub start_of : Base → List PlainRow
start_of base = in_order (flat_map rows_of base.tables)
