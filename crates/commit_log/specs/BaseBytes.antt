-- The bytes of a base: a list of tables, each its name, its columns and its rows, and a list of
-- sequences. Here is what contracts and proofs say of it besides.
use Rattle.std.proofs.Common.{◌≡◌, refl, append_assoc}
use Rattle.std.specs.Prelude.{ℕ, List, ◌++◌, Ok}
use Rattle.canon_bytes.specs.meaning.Numbers.{spell_i64, spell_bool}
use Rattle.canon_bytes.specs.Numbers.{FitsI64}
use Rattle.canon_bytes.specs.meaning.TextBytes.{spell_bytes}
use Rattle.canon_bytes.specs.TextBytes.{FitsName}
use Rattle.canon_bytes.specs.meaning.Lists.{spell_list}
use Rattle.canon_bytes.specs.Lists.{FitsList}
use Rattle.canon_bytes.specs.meaning.Values.{spell_row, row_at}
use Rattle.canon_bytes.specs.Values.{FitsRow}
use Rattle.canon_bytes.specs.meaning.ColumnBytes.{column_at}
use Rattle.canon_bytes.specs.ColumnBytes.{spell_column, FitsColumn, column_again}
use Rattle.canon_bytes.specs.Again.{i64_again, bool_again, name_again, list_again}
use Rattle.canon_bytes.specs.ValuesAgain.{row_again}
use Rattle.commit_log.specs.declared.base.Base.{Base}
use Rattle.commit_log.specs.declared.base.BaseTable.{BaseTable}
use Rattle.commit_log.specs.declared.base.BaseSequence.{BaseSequence}
use Rattle.commit_log.specs.meaning.BaseBytes.{base_at, sequence_at, table_at}

unfoldable pub spell_table : BaseTable → List ℕ
spell_table table = spell_bytes table.schema.name ++ spell_list spell_column table.schema.columns
    ++ spell_list spell_row table.rows

abbrev pub FitsTable : BaseTable → Type 0
FitsTable table = FitsName table.schema.name × FitsList FitsColumn 8 table.schema.columns
    × FitsList FitsRow 10000 table.rows

-- its name, its first value, and whether its values are kept
unfoldable pub spell_sequence : BaseSequence → List ℕ
spell_sequence sequence = spell_bytes sequence.name ++ spell_i64 sequence.start
    ++ spell_bool sequence.keep

abbrev pub FitsSequence : BaseSequence → Type 0
FitsSequence sequence = FitsName sequence.name × FitsI64 sequence.start

unfoldable pub spell_base : Base → List ℕ
spell_base base = spell_list spell_table base.tables ++ spell_list spell_sequence base.sequences

abbrev pub FitsBase : Base → Type 0
FitsBase base = FitsList FitsTable 32 base.tables × FitsList FitsSequence 32 base.sequences

-- ---- what was written is read again, whatever follows

pub table_again : (x : BaseTable) (rest : List ℕ) → FitsTable x
    → table_at (spell_table x ++ rest) ≡ Ok (x, rest)
unfolding table_at spell_table
table_again x rest fits =
    simp append_assoc (rw (
      name_again x.schema.name _ fits.0,
      list_again spell_column FitsColumn column_at column_again 8 x.schema.columns _ fits.1,
      list_again spell_row FitsRow row_at row_again 10000 x.rows rest fits.2,
    ) refl)

pub sequence_again : (x : BaseSequence) (rest : List ℕ) → FitsSequence x
    → sequence_at (spell_sequence x ++ rest) ≡ Ok (x, rest)
unfolding sequence_at spell_sequence
sequence_again x rest fits = simp append_assoc
    (rw (name_again x.name _ fits.0, i64_again x.start _ fits.1, bool_again x.keep rest tt) refl)

pub base_again : (x : Base) (rest : List ℕ) → FitsBase x
    → base_at (spell_base x ++ rest) ≡ Ok (x, rest)
unfolding base_at spell_base
base_again x rest fits =
    simp append_assoc (rw (
      list_again spell_table FitsTable table_at table_again
          32 x.tables _ fits.0,
      list_again spell_sequence FitsSequence sequence_at sequence_again
          32 x.sequences rest fits.1,
    ) refl)
