-- What is found at a place, as it is kept: one row or none, or the rows of a table.
use Rattle.std.specs.Prelude.{◌≡◌, Bool, true, false, List, [], Option, Some, None, map}
use Rattle.std.specs.List.{list_all}
use Rattle.std.specs.Cmp.Lexicographic.{pointwise}
use Rattle.std.specs.Option.{option_copied}
use Rattle.svc_values.specs.declared.value.Value.{Value}
use Rattle.svc_values.specs.meaning.Same.{same_value}
use Rattle.svc_values.specs.declared.tables.PlainRow.{PlainRow}
use Rattle.svc_values.specs.declared.tables.Place.{Place}
use Rattle.svc_values.specs.declared.tables.Place.TheVariants as place
use Rattle.svc_values.specs.meaning.Tables.{rows_at}
use Rattle.table_store.specs.Rows.{Keyed, plain_rows, row_if_any, same_keyed}
use Rattle.table_txn.specs.declared.found.Found.{Found}
use Rattle.table_txn.specs.declared.found.Found.TheVariants as found
use Rattle.table_txn.specs.declared.found.Committed.{Committed}
use Rattle.table_txn.specs.declared.found.Committed.TheVariants as committed
use Rattle.table_txn.specs.declared.readings.ReadPlace.{ReadPlace}
use Rattle.table_txn.specs.Readings.{Reading, reading_of, HadThere, HasRead}

-- a row stands for the place of a row, and the rows of a table for a table
abbrev pub is_for : Place → Found → Bool
is_for (place.Row table key) (found.Row row) = true
is_for (place.Table table) (found.Table rows) = true
is_for _ _ = false

-- the rows, with their table and keys
abbrev pub found_rows : Place → Found → List PlainRow
found_rows (place.Row table key) (found.Row row) = row_if_any table key row
found_rows (place.Table table) (found.Table rows) = plain_rows table rows
found_rows _ _ = []

-- a table that never had rows has none
abbrev pub keyed_or_none : Option Keyed → Keyed
keyed_or_none None = []
keyed_or_none (Some rows) = rows

-- what is committed, once it is kept
abbrev pub kept : Committed → Found
kept (committed.Row row) = found.Row (option_copied row)
kept (committed.Table rows) = found.Table (keyed_or_none (option_copied rows))

abbrev pub same_optional : Option (List Value) → Option (List Value) → Bool
same_optional None None = true
same_optional (Some a) (Some b) = pointwise same_value a b
same_optional _ _ = false

abbrev pub same_found : Found → Found → Bool
same_found (found.Row a) (found.Row b) = same_optional a b
same_found (found.Table a) (found.Table b) = same_keyed a b
same_found _ _ = false

-- it is what stands at the place
pub record IsFoundAt (rows : List PlainRow) (at : Place) (what : Found) : Type 0 where
  pub kind : is_for at what ≡ true
  pub stands : rows_at rows at ≡ found_rows at what

-- and if there is no place, nothing is
abbrev pub IsFoundIfAny : List PlainRow → Option Place → Option Committed → Type 0
IsFoundIfAny rows None None = Unit {0}
IsFoundIfAny rows None (Some what) = ⊥
IsFoundIfAny rows (Some at) None = ⊥
IsFoundIfAny rows (Some at) (Some what) = IsFoundAt rows at (kept what)

-- the row of what is committed at the place of a row
abbrev pub row_in : Option Committed → Option (List Value)
row_in (Some (committed.Row row)) = option_copied row
row_in _ = None

-- readings as they are kept, by place
abbrev pub reading : Place × ReadPlace → Reading
reading entry = record {
  at = entry.0;
  found = found_rows entry.0 entry.1.found;
  is_torn = entry.1.is_torn;
}

abbrev pub readings_of : List (Place × ReadPlace) → List Reading
readings_of entries = map reading entries

-- each has what its place may have
abbrev pub are_for : List (Place × ReadPlace) → Bool
are_for entries = list_all (λ entry. is_for entry.0 entry.1.found) entries

-- the readings after one more read of a place, which found this
pub record IsRead (old : List (Place × ReadPlace)) (at : Place) (what : Found)
    (new : List (Place × ReadPlace)) : Type 0 where
  pub has : HasRead (readings_of old) at (found_rows at what) (readings_of new)
  pub kinds : are_for new ≡ true

-- a place that was not read, or has what it had at each of its reads
abbrev pub HasBefore : Found → Place → List (Place × ReadPlace) → Type 0
HasBefore what at entries = HadThere (readings_of entries) at (found_rows at what)

-- a place without a reading, and nothing has changed
pub record IsNotRead (old : List (Place × ReadPlace)) (at : Place)
    (new : List (Place × ReadPlace)) : Type 0 where
  pub absent : reading_of (readings_of old) at ≡ None
  pub same : new ≡ old
