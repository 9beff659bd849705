-- The keys of a table's rows by the value of one column.
use Rattle.std.specs.Prelude.{◌≡◌, ◌&&◌, ℕ, Bool, false, List, Option, Some, None, slice_get, if◌then◌else◌}
use Rattle.std.specs.declared.cmp.Ordering.{Ordering}
use Rattle.std.specs.declared.cmp.Ordering.TheVariants.{Less, Equal, Greater}
use Rattle.std.specs.declared.ops.Bound.{Bound}
use Rattle.std.specs.declared.ops.Bound.TheVariants.{Included, Excluded, Unbounded}
use Rattle.std.specs.Ordering.{is_eq, ordering_then}
use Rattle.std.specs.List.{AllByRecursion, list_any}
use Rattle.std.specs.BTreeMap.{is_at}
use Rattle.svc_values.specs.declared.statement.Test.{Test}
use Rattle.svc_values.specs.declared.statement.Test.TheVariants as test
use Rattle.svc_values.specs.declared.value.Value.{Value}
use Rattle.svc_values.specs.meaning.Order.{value_cmp}
use Rattle.svc_values.specs.meaning.Schemas.{key_of}
use Rattle.table_store.specs.declared.column_index.ColumnIndex.{ColumnIndex}
use Rattle.table_store.specs.declared.column_index.Pair.{Pair}
use Rattle.table_store.specs.declared.column_index.Spot.{Spot}
use Rattle.table_store.specs.declared.column_index.Spot.TheVariants as spot

-- the order of what stands at one value: the end before all keys, the keys, and the end behind them
abbrev pub spot_cmp : Spot → Spot → Ordering
spot_cmp spot.Before spot.Before = Equal
spot_cmp spot.Before (spot.At k) = Less
spot_cmp spot.Before spot.Behind = Less
spot_cmp (spot.At k) spot.Before = Greater
spot_cmp (spot.At k) (spot.At l) = value_cmp k l
spot_cmp (spot.At k) spot.Behind = Less
spot_cmp spot.Behind spot.Before = Greater
spot_cmp spot.Behind (spot.At k) = Greater
spot_cmp spot.Behind spot.Behind = Equal

-- by value, and then by key
abbrev pub pair_cmp : Pair → Pair → Ordering
pair_cmp a b = ordering_then (value_cmp a.value b.value) (spot_cmp a.spot b.spot)

-- a value with a key
abbrev pub pair : Value → Value → Pair
pair v k = record { value = v; spot = spot.At k }

-- whether a value and a key stand in the index
abbrev pub has_pair : List Pair → Value → Value → Bool
has_pair pairs v k = list_any (is_at (pair_cmp (pair v k))) pairs

-- the value of a row in a column
abbrev pub value_in : Option (List Value) → ℕ → Option Value
value_in None column = None
value_in (Some row) column = slice_get row column

-- there is a value, and it is this one
abbrev pub is_value : Option Value → Value → Bool
is_value None v = false
is_value (Some w) v = is_eq (value_cmp w v)

-- one of the rows has the value in the column, and the key
abbrev pub has_value : List (List Value) → ℕ → Value → Value → Bool
has_value rows column v k = list_any (λ row. is_value (slice_get row column) v
    && is_eq (value_cmp (key_of row) k)) rows

-- the index has the key of each row at its value in the column, and nothing else
abbrev pub IsIndexOf : (Value → Option (List Value)) → ColumnIndex → Type 0
IsIndexOf row_of index = (v k : Value) → has_pair index.pairs.keys v k
    ≡ is_value (value_in (row_of k) index.column) v

abbrev pub AreIndexesOf : (Value → Option (List Value)) → List ColumnIndex → Type 0
AreIndexesOf row_of indexes = AllByRecursion (IsIndexOf row_of) indexes

-- it stands at this key
abbrev pub is_spot_of : Spot → Value → Bool
is_spot_of spot.Before q = false
is_spot_of (spot.At k) q = is_eq (value_cmp k q)
is_spot_of spot.Behind q = false

-- the rows with this one, or none, at one key
abbrev pub with_row : (Value → Option (List Value)) → Value → Option (List Value) → Value
    → Option (List Value)
with_row row_of key row k = if is_eq (value_cmp key k) then row else row_of k

-- where the pairs begin and end whose values meet a test
abbrev pub ends : Test → Value → Bound Pair × Bound Pair
ends test.Eq than = (
  Included (record {
    value = than;
    spot = spot.Before;
  }),
  Included (record { value = than; spot = spot.Behind }),
)
ends test.Lt than = (Unbounded, Excluded (record { value = than; spot = spot.Before }))
ends test.Ge than = (Included (record { value = than; spot = spot.Before }), Unbounded)
