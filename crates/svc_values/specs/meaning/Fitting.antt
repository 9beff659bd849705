-- Tables that fit what is declared of them.
use Rattle.std.specs.Prelude.{◌&&◌, Bool, false, List, Option, Some, None}
use Rattle.std.specs.List.{list_all}
use Rattle.svc_values.specs.declared.value.Value.{Value}
use Rattle.svc_values.specs.declared.schema.Schema.{Schema}
use Rattle.svc_values.specs.declared.entry.Write.{Write}
use Rattle.svc_values.specs.meaning.Kinds.{row_fits}
use Rattle.svc_values.specs.meaning.Same.{same_value}
use Rattle.svc_values.specs.meaning.Schemas.{schema_of, key_fits, key_of}

-- the row has a value of its kind for each column, and its key first
abbrev pub is_row_of : Option Schema → Value → List Value → Bool
is_row_of None key row = false
is_row_of (Some schema) key row = row_fits schema.columns row && same_value (key_of row) key

abbrev pub has_fit : Option Schema → Value → Option (List Value) → Bool
has_fit None key row = false
has_fit (Some schema) key None = key_fits schema.columns key
has_fit (Some schema) key (Some row) = is_row_of (Some schema) key row

-- a write names a declared table and a key of the first column's kind, and its row, if it has one,
-- is a row of that table and key
abbrev pub write_fits : List Schema → Write → Bool
write_fits schemas write = has_fit (schema_of schemas write.table) write.key write.row

abbrev pub writes_fit : List Schema → List Write → Bool
writes_fit schemas writes = list_all (write_fits schemas) writes
