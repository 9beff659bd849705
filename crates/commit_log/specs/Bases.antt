-- What a store begins with: the tables with their rows, and the sequences.
-- Here is what contracts and proofs say of it besides.
use Rattle.std.specs.Prelude.{ℕ, Bool, IsTrue, List}
use Rattle.std.specs.Ordering.{is_lt}
use Rattle.svc_values.specs.declared.value.Value.{Value}
use Rattle.svc_values.specs.declared.schema.Column.{Column}
use Rattle.svc_values.specs.meaning.Order.{value_cmp}
use Rattle.svc_values.specs.meaning.Schemas.{key_of}
use Rattle.commit_log.specs.declared.base.Base.{Base}
use Rattle.commit_log.specs.meaning.Bases.{is_base}

-- the key of one row is below that of another
abbrev pub has_lower_key : List Value → List Value → Bool
has_lower_key row other = is_lt (value_cmp (key_of row) (key_of other))

abbrev pub column_name : Column → List ℕ
column_name column = column.name

abbrev pub IsBase : Base → Type 0
IsBase base = IsTrue (is_base base)
