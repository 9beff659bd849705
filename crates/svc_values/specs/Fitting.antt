-- Tables that fit what is declared of them.
-- Here is what contracts and proofs say of it besides.
use Rattle.std.specs.Prelude.{◌≡◌, Bool, true, List}
use Rattle.std.specs.List.{list_all}
use Rattle.svc_values.specs.declared.schema.Schema.{Schema}
use Rattle.svc_values.specs.declared.schema.Shape.{Shape}
use Rattle.svc_values.specs.declared.tables.PlainRow.{PlainRow}
use Rattle.svc_values.specs.Tables.{AreTables}
use Rattle.svc_values.specs.meaning.Schemas.{schema_of}
use Rattle.svc_values.specs.meaning.Fitting.{is_row_of}

-- each row stands in a table that is declared, fits its columns and has its key first
abbrev pub tables_fit : List Schema → List PlainRow → Bool
tables_fit schemas tables = list_all (λ one. is_row_of (schema_of schemas one.table) one.key
    one.row) tables

-- tables of this shape: in order, and each row fits
pub record IsBase (shape : Shape) (tables : List PlainRow) : Type 0 where
  pub ordered : AreTables tables
  pub fitting : tables_fit shape.schemas tables ≡ true
