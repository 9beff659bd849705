-- Columns of tables: the name, and the kind.
-- Here is what contracts and proofs say of it besides.
use Rattle.std.proofs.Common.{◌≡◌, refl, append_assoc}
use Rattle.std.specs.Prelude.{ℕ, List, ◌++◌, Ok}
use Rattle.svc_values.specs.declared.schema.Column.{Column}
use Rattle.canon_bytes.specs.meaning.TextBytes.{spell_bytes}
use Rattle.canon_bytes.specs.TextBytes.{FitsName}
use Rattle.canon_bytes.specs.Values.{spell_kind}
use Rattle.canon_bytes.specs.Again.{name_again}
use Rattle.canon_bytes.specs.ValuesAgain.{kind_again}
use Rattle.canon_bytes.specs.meaning.ColumnBytes.{column_at}

unfoldable pub spell_column : Column → List ℕ
spell_column column = spell_bytes column.name ++ spell_kind column.kind

abbrev pub FitsColumn : Column → Type 0
FitsColumn column = FitsName column.name

-- what was written is read again, whatever follows
pub column_again : (x : Column) (rest : List ℕ) → FitsColumn x
    → column_at (spell_column x ++ rest) ≡ Ok (x, rest)
unfolding column_at spell_column
column_again x rest fits = simp append_assoc
    (rw (name_again x.name _ fits, kind_again x.kind rest tt) refl)
