-- The readings of a transaction: each place that was read stands there once.
use Rattle.std.specs.Prelude.{◌≡◌, ◌↔◌, ℕ, Bool, false, not, ◌||◌, IsTrue, List, [], ◌∷◌, Option, Some, None, IfSome, map, filter, find, All, if◌then◌else◌}
use Rattle.svc_values.specs.declared.tables.PlainRow.{PlainRow}
use Rattle.svc_values.specs.declared.tables.Place.{Place}
use Rattle.svc_values.specs.declared.tables.Place.TheVariants as place
use Rattle.svc_values.specs.meaning.Tables.{rows_at}
use Rattle.svc_values.specs.meaning.Same.{same_rows}
use Rattle.svc_values.specs.Same.{same_place}
use Rattle.stmt_meaning.specs.meaning.Reads.{Read}

-- what the first read of a place found, and whether a later one found something else
pub record Reading : Type 0 where
  pub at : Place
  pub found : List PlainRow
  pub is_torn : Bool

-- what the reads of a place found, in order
abbrev pub found_at : Place → List Read → List (List PlainRow)
found_at at reads = map (λ read. read.found) (filter (λ read. same_place read.at at) reads)

-- the reading of a place, if it has one
abbrev pub reading_of : List Reading → Place → Option Reading
reading_of readings at = find (λ reading. same_place reading.at at) readings

-- A place has no reading exactly where nothing was found there. Its reading has what was found
-- first, and is torn exactly where something else was found later.
abbrev pub IsReadingOf : Option Reading → List (List PlainRow) → Type 0
IsReadingOf None [] = Unit {0}
IsReadingOf None (first ∷ later) = ⊥
IsReadingOf (Some reading) [] = ⊥
IsReadingOf (Some reading) (first ∷ later) = (reading.found ≡ first)
    × ((reading.is_torn ≡ false) ↔ All (λ found. found ≡ first) later)

-- the readings are those of these reads
abbrev pub AreReadings : List Reading → List Read → Type 0
AreReadings readings reads = (at : Place) → IsReadingOf (reading_of readings at) (found_at at reads)

-- the reading of a place after one more read of it
abbrev pub read_more : Option Reading → Place → List PlainRow → Reading
read_more None at found = record { at = at; found = found; is_torn = false }
read_more (Some reading) at found = record {
  at = reading.at;
  found = reading.found;
  is_torn = reading.is_torn || not (same_rows reading.found found);
}

-- the readings after one more read: that of its place is changed, and each other one stays
abbrev pub HasRead : List Reading → Place → List PlainRow → List Reading → Type 0
HasRead old at found new = (q : Place) → reading_of new q
    ≡ (if same_place at q then Some (read_more (reading_of old at) at found) else reading_of old q)

-- after one more read, if there was one
abbrev pub HasReadIfAny : List PlainRow → List Reading → Option Place → List Reading → Type 0
HasReadIfAny committed old None new = new ≡ old
HasReadIfAny committed old (Some at) new = HasRead old at (rows_at committed at) new

-- the table of a place
abbrev pub table_in : Place → List ℕ
table_in (place.Row table key) = table
table_in (place.Table table) = table

-- the place of a reading has what it had at each of its reads
abbrev pub HasStood : List PlainRow → Reading → Type 0
HasStood now reading = (reading.is_torn ≡ false) × (reading.found ≡ rows_at now reading.at)

-- a place had these rows at each of its reads, if it was read
abbrev pub HadThere : List Reading → Place → List PlainRow → Type 0
HadThere readings at rows = IfSome (reading_of readings at)
    (λ reading. (reading.is_torn ≡ false) × (reading.found ≡ rows))

-- it has them now
abbrev pub IsUnchangedAt : List PlainRow → List Reading → Place → Type 0
IsUnchangedAt now readings at = HadThere readings at (rows_at now at)

-- each place that was read has
abbrev pub AreUnchanged : List PlainRow → List Reading → Type 0
AreUnchanged now readings = (at : Place) → IsUnchangedAt now readings at

-- and each one in these tables
abbrev pub StandWhere : (List ℕ → Bool) → List PlainRow → List Reading → Type 0
StandWhere known now readings = (at : Place) → IsTrue (known (table_in at))
    → IsUnchangedAt now readings at

-- where that was so, it is so with the later readings
abbrev pub StayUnchanged : List PlainRow → List Reading → List Reading → Type 0
StayUnchanged now old new = (at : Place) → IsUnchangedAt now old at → IsUnchangedAt now new at

-- the reading is torn, or its place has other rows now
abbrev pub has_changed : List PlainRow → Reading → Bool
has_changed now reading = reading.is_torn || not (same_rows reading.found (rows_at now reading.at))

-- the first place of which that is so
abbrev pub first_changed : List PlainRow → List Reading → Option Place
first_changed now [] = None
first_changed now (reading ∷ readings) =
    if has_changed now reading then Some reading.at else first_changed now readings

-- no place has two readings
abbrev pub AreApart : List Reading → Type 0
AreApart readings = All (λ reading. reading_of readings reading.at ≡ Some reading) readings
