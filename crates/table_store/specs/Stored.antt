-- What tables are seen as, and what they keep to.
use Rattle.std.specs.Prelude.{◌≡◌, ℕ, List, [], ◌∷◌, IsTrue, take}
use Rattle.svc_values.specs.declared.schema.Schema.{Schema}
use Rattle.svc_values.specs.declared.entry.Write.{Write}
use Rattle.svc_values.specs.declared.tables.PlainRow.{PlainRow}
use Rattle.svc_values.specs.declared.tables.Place.TheVariants as place
use Rattle.svc_values.specs.meaning.Tables.{rows_at, with_writes}
use Rattle.svc_values.specs.Tables.{AreTables}
use Rattle.svc_values.specs.Fitting.{tables_fit}
use Rattle.table_store.specs.Rows.{Shelves, IsShelved, all_rows}

-- the declarations, in the order in which they were given, and all rows, in the order of table and
-- key
pub record Stored : Type 0 where
  pub schemas : List Schema
  pub rows : List PlainRow

-- the rows stand in their order, none twice, and fit what is declared
pub record AreKept (tables : Stored) : Type 0 where
  pub ordered : AreTables tables.rows
  pub fitting : IsTrue (tables_fit tables.schemas tables.rows)

-- no table and key stands twice
abbrev pub AreApart : List PlainRow → Type 0
AreApart [] = Unit {0}
AreApart (row ∷ rest) = (rows_at rest (place.Row row.table row.key) ≡ []) × AreApart rest

-- the rows that are kept, beside the declarations
pub record IsStored (schemas : List Schema) (shelves : Shelves) : Type 0 where
  pub shelved : IsShelved shelves
  pub fitting : IsTrue (tables_fit schemas (all_rows shelves))

-- the tables after the first few of the writes
abbrev pub HasSome : Stored → List Write → Stored → Type 0
HasSome old writes new = (n : ℕ) × (new ≡ record {
  schemas = old.schemas;
  rows = with_writes old.rows (take n writes);
})
