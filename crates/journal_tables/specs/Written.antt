-- What entries wrote.
use Rattle.std.specs.Prelude.{ℕ, Bool, List}
use Rattle.std.specs.List.{flat_map}
use Rattle.svc_values.specs.declared.value.Value.{Value}
use Rattle.svc_values.specs.declared.schema.Schema.{Schema}
use Rattle.svc_values.specs.declared.entry.Entry.{Entry}
use Rattle.svc_values.specs.declared.entry.Write.{Write}
use Rattle.svc_values.specs.declared.tables.PlainRow.{PlainRow}
use Rattle.svc_values.specs.meaning.Fitting.{writes_fit}
use Rattle.svc_values.specs.meaning.Schemas.{key_of}
use Rattle.svc_values.specs.meaning.Tables.{with_writes}

abbrev pub writes_in : Entry → List Write
writes_in entry = entry.writes

-- the tables with what entries wrote, one entry after the other
abbrev pub tables_with : List PlainRow → List Entry → List PlainRow
tables_with tables entries = with_writes tables (flat_map writes_in entries)

-- its writes fit what is declared
abbrev pub entry_fits : List Schema → Entry → Bool
entry_fits schemas entry = writes_fit schemas entry.writes

-- a row of a table, as it is kept
abbrev pub plain_row : List ℕ → List Value → PlainRow
plain_row table row = record { table = table; key = key_of row; row = row }
