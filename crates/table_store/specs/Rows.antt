-- Rows as they are kept: by the name of the table, and in it in order of key.
use Rattle.std.specs.Prelude.{◌≡◌, ◌&&◌, ℕ, Bool, List, [], ◌∷◌, Option, Some, None, map}
use Rattle.std.specs.List.{flat_map, AllByRecursion}
use Rattle.std.specs.List.Sorted.{IsStrictlySortedBy}
use Rattle.std.specs.Ordering.{nat_cmp}
use Rattle.std.specs.Cmp.Lexicographic.{pointwise, slice_cmp}
use Rattle.std.specs.BTreeMap.{is_at}
use Rattle.std.specs.Map.{keys_of, lookup, values_of}
use Rattle.svc_values.specs.declared.value.Value.{Value}
use Rattle.svc_values.specs.meaning.Order.{value_cmp}
use Rattle.svc_values.specs.meaning.Same.{same_value}
use Rattle.svc_values.specs.meaning.Schemas.{key_of}
use Rattle.svc_values.specs.declared.tables.PlainRow.{PlainRow}

-- the rows of one table, each with its key
abbrev pub Keyed : Type 0
Keyed = List (Value × List Value)

-- in order of key, none twice
abbrev pub KeysRise : Keyed → Type 0
KeysRise entries = IsStrictlySortedBy value_cmp (keys_of entries)

-- each row stands at its first value
abbrev pub KeysFirst : Keyed → Type 0
KeysFirst entries = AllByRecursion (λ one. key_of one.1 ≡ one.0) entries

-- the same keys in the same order, with the same rows
abbrev pub same_keyed : Keyed → Keyed → Bool
same_keyed = pointwise (λ a b. same_value a.0 b.0 && pointwise same_value a.1 b.1)

-- the row of a key
abbrev pub keyed_of : Keyed → Value → Option (List Value)
keyed_of entries key = lookup (is_at (value_cmp key)) entries

-- the tables that have rows, each with its name
abbrev pub Shelves : Type 0
Shelves = List (List ℕ × Keyed)

-- in order of name, none twice, and each in order of key
abbrev pub IsShelved : Shelves → Type 0
IsShelved shelves = IsStrictlySortedBy (slice_cmp nat_cmp) (keys_of shelves)
    × AllByRecursion (λ one. KeysRise one.1) shelves

-- the rows of the table of a name
abbrev pub shelf_of : Shelves → List ℕ → Option Keyed
shelf_of shelves table = lookup (is_at (slice_cmp nat_cmp table)) shelves

abbrev pub keyed_if_any : Option Keyed → Value → Option (List Value)
keyed_if_any None key = None
keyed_if_any (Some entries) key = keyed_of entries key

-- the row of a key of a table
abbrev pub row_kept : Shelves → List ℕ → Value → Option (List Value)
row_kept shelves table key = keyed_if_any (shelf_of shelves table) key

abbrev pub plain_row : List ℕ → Value × List Value → PlainRow
plain_row table entry = record { table = table; key = entry.0; row = entry.1 }

abbrev pub plain_rows : List ℕ → Keyed → List PlainRow
plain_rows table entries = map (plain_row table) entries

-- all rows, one table after the other
abbrev pub all_rows : Shelves → List PlainRow
all_rows shelves = flat_map (λ one. plain_rows one.0 one.1) shelves

-- the rows of a table that may have none
abbrev pub rows_if_any : List ℕ → Option Keyed → List PlainRow
rows_if_any table None = []
rows_if_any table (Some entries) = plain_rows table entries

-- the row of a key that may have none
abbrev pub row_if_any : List ℕ → Value → Option (List Value) → List PlainRow
row_if_any table key None = []
row_if_any table key (Some row) = record { table = table; key = key; row = row } ∷ []

-- the rows of a table that may have none, in order of key
abbrev pub shelf_rows : Option Keyed → List (List Value)
shelf_rows None = []
shelf_rows (Some entries) = values_of entries
