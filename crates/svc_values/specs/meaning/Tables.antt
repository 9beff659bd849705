-- Plain tables: a list of rows, each with its table and key, in the order of table and key. No
-- table and key stands twice.
use Rattle.std.specs.Prelude.{ℕ, ◌&&◌, Bool, true, false, not, List, [], ◌∷◌, Option, Some, None, filter, if◌then◌else◌}
use Rattle.std.specs.Str.{bytes_eq}
use Rattle.std.specs.Ordering.{nat_cmp, match_ordering}
use Rattle.std.specs.Cmp.Lexicographic.{slice_cmp}
use Rattle.svc_values.specs.declared.value.Value.{Value}
use Rattle.svc_values.specs.declared.entry.Write.{Write}
use Rattle.svc_values.specs.meaning.Order.{value_cmp}
use Rattle.svc_values.specs.meaning.Same.{same_value}
use Rattle.svc_values.specs.declared.tables.PlainRow.{PlainRow}
use Rattle.svc_values.specs.declared.tables.Place.{Place}
use Rattle.svc_values.specs.declared.tables.Place.TheVariants as place

-- the row stands at the place: it is the one with this table and key, or it is in this table
abbrev pub is_at : Place → PlainRow → Bool
is_at (place.Row table key) row = bytes_eq row.table table && same_value row.key key
is_at (place.Table table) row = bytes_eq row.table table

-- what stands at a place: its row or none, or the rows of the table in order of key
abbrev pub rows_at : List PlainRow → Place → List PlainRow
rows_at tables at = filter (is_at at) tables

-- the row comes first in that order
abbrev pub comes_before : PlainRow → PlainRow → Bool
comes_before a b = match_ordering (slice_cmp nat_cmp a.table b.table) true
    (match_ordering (value_cmp a.key b.key) true false false) false

-- the row put in at its place in the order
abbrev pub put_row : PlainRow → List PlainRow → List PlainRow
put_row row [] = row ∷ []
put_row row (first ∷ rest) = if comes_before row first then row ∷ first ∷ rest else first
    ∷ put_row row rest

-- the rows with other tables or keys
abbrev pub without : List PlainRow → List ℕ → Value → List PlainRow
without tables table key = filter (λ row. not (is_at (place.Row table key) row)) tables

abbrev pub put_if_any : List PlainRow → List ℕ → Value → Option (List Value) → List PlainRow
put_if_any tables table key None = tables
put_if_any tables table key (Some row) = put_row (record {
  table = table;
  key = key;
  row = row;
}) tables

-- the tables after a write: what stood at its table and key is gone, and its row, if it has one, is
-- there
abbrev pub with_write : List PlainRow → Write → List PlainRow
with_write tables write = put_if_any (without tables write.table write.key) write.table write.key
    write.row

-- the tables after writes, in their order
abbrev pub with_writes : List PlainRow → List Write → List PlainRow
with_writes tables [] = tables
with_writes tables (write ∷ writes) = with_writes (with_write tables write) writes

-- rows put into that order, one after the other
abbrev pub in_order : List PlainRow → List PlainRow
in_order [] = []
in_order (row ∷ rest) = put_row row (in_order rest)
