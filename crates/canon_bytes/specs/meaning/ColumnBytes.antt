-- Columns of tables: the name, and the kind.
use Rattle.std.specs.Prelude.{ℕ, List, Result, Ok}
use Rattle.svc_values.specs.declared.schema.Column.{Column}
use Rattle.canon_bytes.specs.meaning.TextBytes.{name_at}
use Rattle.canon_bytes.specs.meaning.Values.{kind_at}
use Rattle.canon_bytes.specs.meaning.Reading.{◌>>=◌}
use Rattle.canon_bytes.specs.declared.fault.Fault.{Fault}

unfoldable pub column_at : List ℕ → Result (Column × List ℕ) Fault
column_at bytes = do
  name ← name_at bytes
  kind ← kind_at name.1
  Ok (record { name = name.0; kind = kind.0 }, kind.1)
