-- The blocks in which the rows of a table are held, and what a search among rows tells.
use Rattle.std.specs.Prelude.{◌≡◌, ◌<◌, ℕ, suc, Bool, true, false, not, ◌&&◌, List, [], ◌∷◌, ◌++◌, Option, Some, None, drop, filter, length, map, slice_index_or, take}
use Rattle.std.specs.List.{AllByRecursion}
use Rattle.std.specs.List.Sorted.{IsPartitionPoint}
use Rattle.std.specs.declared.cmp.Ordering.TheVariants.{Less, Greater}
use Rattle.std.specs.declared.ops.Bound.{Bound}
use Rattle.std.specs.Ordering.{is_eq, is_le, is_lt}
use Rattle.std.specs.BTreeMap.Range.{is_from_start, is_past_end}
use Rattle.std.specs.Cmp.Lexicographic.{pointwise}
use Rattle.std.specs.Map.{keys_of}
use Rattle.svc_values.specs.declared.value.Value.{Value}
use Rattle.svc_values.specs.meaning.Order.{value_cmp}
use Rattle.svc_values.specs.meaning.Same.{same_value}
use Rattle.svc_values.specs.meaning.Schemas.{key_of}
use Rattle.table_store.specs.Given.{keyed}
use Rattle.table_store.specs.Rows.{Keyed}
use Rattle.table_store.specs.declared.walk.Place.{Place}

-- the rows of blocks, one after the other
abbrev pub rows_in : List (List (List Value)) → List (List Value)
rows_in [] = []
rows_in (block ∷ blocks) = block ++ rows_in blocks

-- the same, each with its key
abbrev pub entries_in : List (List (List Value)) → Keyed
entries_in blocks = map keyed (rows_in blocks)

-- each block has a row
abbrev pub AreFilled : List (List (List Value)) → Type 0
AreFilled blocks = AllByRecursion (λ block. 0 < length block) blocks

-- the rows of the blocks before the place are below the key, and those of the blocks behind it
-- above
abbrev pub IsPlaceOf : Value → List (List (List Value)) → ℕ → Type 0
IsPlaceOf key blocks at =
    AllByRecursion (λ k. value_cmp key k ≡ Greater) (keys_of (entries_in (take at blocks)))
    × AllByRecursion (λ k. value_cmp key k ≡ Less) (keys_of (entries_in (drop (suc at) blocks)))

-- the row's key is below this one
abbrev pub is_below : Value → List Value → Bool
is_below key row = not (is_le (value_cmp key (key_of row)))

-- the row's key is this one or below it
abbrev pub is_up_to : Value → List Value → Bool
is_up_to key row = not (is_lt (value_cmp key (key_of row)))

-- the first row's key, if there is one, is this one or below it
abbrev pub begins_up_to : Value → List (List Value) → Bool
begins_up_to key [] = true
begins_up_to key (row ∷ rows) = is_up_to key row

-- the rows of all other keys
abbrev pub without : Value → List (List Value) → List (List Value)
without key rows = filter (λ row. not (is_eq (value_cmp key (key_of row)))) rows

-- the rows before the place are outside a start, and the others inside
abbrev pub StartsAt : Bound Value → List (List Value) → ℕ → Type 0
StartsAt lo rows at = IsPartitionPoint (λ row. is_from_start value_cmp lo (key_of row) ≡ false)
    (λ row. is_from_start value_cmp lo (key_of row) ≡ true) rows at

-- the rows before the place are inside an end, and the others past it
abbrev pub EndsAt : Bound Value → List (List Value) → ℕ → Type 0
EndsAt hi rows at = IsPartitionPoint (λ row. is_past_end value_cmp hi (key_of row) ≡ false)
    (λ row. is_past_end value_cmp hi (key_of row) ≡ true) rows at

-- the first row's key, if there is one, is above this one, if there is one
abbrev pub is_behind : Option Value → List Value → Bool
is_behind None row = true
is_behind (Some key) row = is_lt (value_cmp key (key_of row))

-- each row's key is above the one before it, and the first one's above this one
abbrev pub rise_behind : Option Value → List (List Value) → Bool
rise_behind last [] = true
rise_behind last (row ∷ rows) = is_behind last row && rise_behind (Some (key_of row)) rows

-- the rows from a place on: a row of a block, or its end
abbrev pub rows_from : List (List (List Value)) → Place → List (List Value)
rows_from blocks at = drop at.row (slice_index_or blocks at.block [])
    ++ rows_in (drop (suc at.block) blocks)

-- the same rows in the same order
abbrev pub same_rows : List (List Value) → List (List Value) → Bool
same_rows = pointwise (pointwise same_value)

-- whether the rows from a place on are these, and not where there is no place
abbrev pub is_rest : List (List (List Value)) → Option Place → List (List Value) → Bool
is_rest blocks None rows = false
is_rest blocks (Some at) rows = same_rows (rows_from blocks at) rows

-- a row that is met with the place behind it, or no more rows
abbrev pub MeetsNext : List (List (List Value)) → Place → Option (List Value × Place) → Type 0
MeetsNext blocks at None = rows_from blocks at ≡ []
MeetsNext blocks at (Some next) = rows_from blocks at ≡ next.0 ∷ rows_from blocks next.1
