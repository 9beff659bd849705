-- What writes keep to.
use Rattle.std.specs.Prelude.{◌≡◌, Bool, false, List, [], ◌∷◌, ◌++◌, Option, Some, None}
use Rattle.svc_values.specs.declared.value.Value.{Value}
use Rattle.svc_values.specs.declared.entry.Write.{Write}
use Rattle.svc_values.specs.declared.tables.PlainRow.{PlainRow}
use Rattle.svc_values.specs.declared.tables.Place.{Place}
use Rattle.svc_values.specs.declared.tables.Place.TheVariants as place
use Rattle.svc_values.specs.meaning.Tables.{is_at, rows_at, with_write, with_writes}
use Rattle.svc_values.specs.Tables.{AreTables}

-- what stands at a place after writes depends on what stood there alone
abbrev pub WritesAreLocal : Type 0
WritesAreLocal = (a b : List PlainRow) (at : Place) (writes : List Write) → AreTables a
    → AreTables b → rows_at a at ≡ rows_at b at
    → rows_at (with_writes a writes) at ≡ rows_at (with_writes b writes) at

-- writes keep the order of tables
abbrev pub WritesKeepOrder : Type 0
WritesKeepOrder = (tables : List PlainRow) (writes : List Write) → AreTables tables
    → AreTables (with_writes tables writes)

-- the row that a write leaves
abbrev pub written_row : Write → Option (List Value) → List PlainRow
written_row write None = []
written_row write (Some row) = (record { table = write.table; key = write.key; row = row }) ∷ []

-- after a write its row stands at its table and key, or none
abbrev pub WritesStand : Type 0
WritesStand = (tables : List PlainRow) (write : Write) → AreTables tables
    → rows_at (with_write tables write) (place.Row write.table write.key)
    ≡ written_row write write.row

-- a row of the write's table and key would stand at the place
abbrev pub is_touched : Place → Write → Bool
is_touched at write = is_at at (record { table = write.table; key = write.key; row = [] })

-- and each other place is as it was
abbrev pub WritesTouchNoOther : Type 0
WritesTouchNoOther = (tables : List PlainRow) (write : Write) (at : Place) → AreTables tables
    → is_touched at write ≡ false → rows_at (with_write tables write) at ≡ rows_at tables at

-- writes in two parts
abbrev pub WritesGoOn : Type 0
WritesGoOn = (tables : List PlainRow) (writes more : List Write)
    → with_writes tables (writes ++ more) ≡ with_writes (with_writes tables writes) more
