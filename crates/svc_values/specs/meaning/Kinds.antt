-- Kinds of values, rows that fit columns, and names that stand once.
use Rattle.std.specs.Prelude.{ℕ, Bool, true, false, ◌&&◌, not, List, [], ◌∷◌}
use Rattle.std.specs.Str.{bytes_eq}
use Rattle.std.specs.List.{list_any}
use Rattle.svc_values.specs.declared.value.Kind.{Kind}
use Rattle.svc_values.specs.declared.value.Kind.TheVariants as kind
use Rattle.svc_values.specs.declared.value.Value.{Value}
use Rattle.svc_values.specs.declared.value.Value.TheVariants as value
use Rattle.svc_values.specs.declared.schema.Column.{Column}

abbrev pub kind_of : Value → Kind
kind_of (value.Int n) = kind.Int
kind_of (value.Text text) = kind.Text
kind_of (value.Bytes bytes) = kind.Bytes

abbrev pub same_kind : Kind → Kind → Bool
same_kind kind.Int kind.Int = true
same_kind kind.Text kind.Text = true
same_kind kind.Bytes kind.Bytes = true
same_kind _ _ = false

-- one value for each column, of its kind
abbrev pub row_fits : List Column → List Value → Bool
row_fits [] [] = true
row_fits (column ∷ columns) (value ∷ values) =
    same_kind column.kind (kind_of value) && row_fits columns values
row_fits _ _ = false

abbrev pub has_column : List Column → List ℕ → Bool
has_column columns name = list_any (λ column. bytes_eq column.name name) columns

-- no name stands twice
abbrev pub have_distinct_names : List Column → Bool
have_distinct_names [] = true
have_distinct_names (column ∷ columns) =
    not (has_column columns column.name) && have_distinct_names columns
