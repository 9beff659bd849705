-- The bytes of a base: a list of tables, each its name, its columns and its rows, and a list of
-- sequences.
use Rattle.std.specs.Prelude.{ℕ, List, Result, Ok}
use Rattle.canon_bytes.specs.meaning.Numbers.{i64_at, bool_at}
use Rattle.canon_bytes.specs.meaning.TextBytes.{name_at}
use Rattle.canon_bytes.specs.meaning.Lists.{list_at}
use Rattle.canon_bytes.specs.meaning.Values.{row_at}
use Rattle.canon_bytes.specs.meaning.ColumnBytes.{column_at}
use Rattle.canon_bytes.specs.meaning.Reading.{◌>>=◌}
use Rattle.canon_bytes.specs.declared.fault.Fault.{Fault}
use Rattle.commit_log.specs.declared.base.Base.{Base}
use Rattle.commit_log.specs.declared.base.BaseTable.{BaseTable}
use Rattle.commit_log.specs.declared.base.BaseSequence.{BaseSequence}

unfoldable pub table_at : List ℕ → Result (BaseTable × List ℕ) Fault
table_at bytes = do
  name ← name_at bytes
  columns ← list_at column_at 8 name.1
  rows ← list_at row_at 10000 columns.1
  Ok (record { schema = record { name = name.0; columns = columns.0 }; rows = rows.0 }, rows.1)

unfoldable pub sequence_at : List ℕ → Result (BaseSequence × List ℕ) Fault
sequence_at bytes = do
  name ← name_at bytes
  start ← i64_at name.1
  keep ← bool_at start.1
  Ok (record { name = name.0; start = start.0; keep = keep.0 }, keep.1)

unfoldable pub base_at : List ℕ → Result (Base × List ℕ) Fault
base_at bytes = do
  tables ← list_at table_at 32 bytes
  sequences ← list_at sequence_at 32 tables.1
  Ok (record { tables = tables.0; sequences = sequences.0 }, sequences.1)
