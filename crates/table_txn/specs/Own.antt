-- The writes of a transaction, and where the last one of each table and key stands.
use Rattle.std.specs.Prelude.{◌≡◌, ℕ, ◌+◌, ◌≤◌, length, List, [], ◌∷◌, ◌++◌, Option, Some, None, slice_get, option_and_then, if◌then◌else◌}
use Rattle.std.specs.BTreeMap.{BTreeMap, is_at}
use Rattle.std.specs.Map.{lookup}
use Rattle.std.specs.Ordering.{nat_cmp}
use Rattle.std.specs.Cmp.Lexicographic.{slice_cmp}
use Rattle.svc_values.specs.declared.value.Value.{Value}
use Rattle.svc_values.specs.declared.entry.Write.{Write}
use Rattle.svc_values.specs.meaning.Order.{value_cmp}
use Rattle.table_store.specs.Shelves.{is_place}

abbrev pub or_else : {A : Type 0} → Option A → Option A → Option A
or_else None other = other
or_else (Some x) other = Some x

-- where the last write of a table and key stands, counted from this place on
abbrev pub last_from : ℕ → List Write → List ℕ → Value → Option ℕ
last_from at [] table key = None
last_from at (write ∷ writes) table key =
    or_else (last_from (at + 1) writes table key)
    (if is_place write.table write.key table key then Some at else None)

-- where the last write of a table and key stands, from 0
abbrev pub last_at : List Write → List ℕ → Value → Option ℕ
last_at writes table key = last_from 0 writes table key

-- the last write of a table and key
abbrev pub last_write : List Write → List ℕ → Value → Option Write
last_write writes table key = option_and_then (slice_get writes) (last_at writes table key)

-- the row after the last write, if there was one
abbrev pub row_over : Option Write → Option (List Value) → Option (List Value)
row_over None row = row
row_over (Some write) row = write.row

-- the places by key of one table
abbrev pub Keys : Type 0
Keys = BTreeMap Value ℕ

abbrev pub place_in : Option Keys → Value → Option ℕ
place_in None key = None
place_in (Some keys) key = lookup (is_at (value_cmp key)) keys.entries

-- the places of all tables, by name
abbrev pub Latest : Type 0
Latest = BTreeMap (List ℕ) Keys

abbrev pub keys_kept : Latest → List ℕ → Option Keys
keys_kept latest table = lookup (is_at (slice_cmp nat_cmp table)) latest.entries

abbrev pub place_kept : Latest → List ℕ → Value → Option ℕ
place_kept latest table key = place_in (keys_kept latest table) key

-- the map has the place of the last write of each table and key
abbrev pub AreLatest : List Write → Latest → Type 0
AreLatest writes latest = (table : List ℕ) (key : Value)
    → place_kept latest table key ≡ last_at writes table key

-- beside each of the writes behind the first ones stands the place of the one before it of its
-- table and key
abbrev pub AreBeforeFrom : List Write → List Write → List (Option ℕ) → Type 0
AreBeforeFrom first [] before = Unit {0}
AreBeforeFrom first (write ∷ writes) [] = ⊥
AreBeforeFrom first (write ∷ writes) (at ∷ before) = (at ≡ last_at first write.table write.key)
    × AreBeforeFrom (first ++ write ∷ []) writes before

abbrev pub AreBefore : List Write → List (Option ℕ) → Type 0
AreBefore writes before = AreBeforeFrom [] writes before

-- what is kept of writes
pub record AreOwn (writes : List Write) (before : List (Option ℕ)) (latest : Latest) : Type 0 where
  pub before_each : AreBefore writes before
  pub last : AreLatest writes latest

-- one table and key has this place, or none, and each other has what it had
abbrev pub HasPlace : Latest → List ℕ → Value → Option ℕ → Latest → Type 0
HasPlace old table key at new = (t : List ℕ) (k : Value)
    → place_kept new t k ≡ (if is_place table key t k then at else place_kept old t k)

-- each table and key has what it had
abbrev pub HasSamePlaces : Latest → Latest → Type 0
HasSamePlaces old new = (t : List ℕ) (k : Value) → place_kept new t k ≡ place_kept old t k

-- the same in one table
abbrev pub HasKey : Keys → Value → Option ℕ → Keys → Type 0
HasKey old key at new = (k : Value) → place_in (Some new) k
    ≡ (if is_at (value_cmp key) k then at else place_in (Some old) k)

-- the last write is taken off, if it is behind the first few
abbrev pub PopsBehind : List Write → ℕ → Option Write → List Write → Type 0
PopsBehind old count None new = (new ≡ old) × (length old ≤ count)
PopsBehind old count (Some last) new = (old ≡ new ++ last ∷ []) × (count ≤ length new)
