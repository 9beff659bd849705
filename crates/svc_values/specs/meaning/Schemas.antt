-- Tables as they may be declared.
use Rattle.std.specs.Prelude.{ℕ, pos, Bool, false, ◌&&◌, nat_le, List, [], ◌∷◌, length, Option, Some, None, find, position, slice_get}
use Rattle.std.specs.Str.{bytes_eq}
use Rattle.svc_values.specs.declared.value.Kind.{Kind}
use Rattle.svc_values.specs.declared.value.Value.{Value}
use Rattle.svc_values.specs.declared.value.Value.TheVariants as value
use Rattle.svc_values.specs.declared.schema.Column.{Column}
use Rattle.svc_values.specs.declared.schema.Schema.{Schema}
use Rattle.svc_values.specs.meaning.Kinds.{kind_of, same_kind, have_distinct_names}

-- at least one column, and no column's name twice
abbrev pub is_declared : Schema → Bool
is_declared schema = nat_le 1 (length schema.columns) && have_distinct_names schema.columns

-- the declaration of a table, if it is there
abbrev pub schema_of : List Schema → List ℕ → Option Schema
schema_of schemas table = find (λ schema. bytes_eq schema.name table) schemas

-- the place of the column, from 0
abbrev pub column_of : List Column → List ℕ → Option ℕ
column_of columns name = position (λ column. bytes_eq column.name name) columns

abbrev pub is_kind : Kind → Option Column → Bool
is_kind wanted None = false
is_kind wanted (Some column) = same_kind column.kind wanted

-- the column at this place is of this kind
abbrev pub is_column_kind : List Column → ℕ → Kind → Bool
is_column_kind columns at wanted = is_kind wanted (slice_get columns at)

-- a key is of the first column's kind
abbrev pub key_fits : List Column → Value → Bool
key_fits columns key = is_column_kind columns 0 (kind_of key)

-- the first value is the key
abbrev pub key_of : List Value → Value
key_of [] = value.Int (pos 0)
key_of (key ∷ rest) = key
