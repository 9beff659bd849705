-- A table whose rows are read one after the other.
use Rattle.std.specs.Prelude.{◌≡◌, ℕ, List, [], Bool, Option, Some, None, option_map, Ok, codes}
use Rattle.json.specs.Token.{Token}
use Rattle.serde_json.specs.Data.{Data}
use Rattle.json_form.specs.meaning.Objects.{Named}
use Rattle.json_form.specs.Objects.{putting}
use Rattle.json_form.specs.Streams.{value_ahead}
use Rattle.svc_values.specs.declared.schema.Column.{Column}
use Rattle.document_forms.specs.declared.table_ahead.TableAhead.{TableAhead}
use Rattle.call_forms.specs.meaning.Values.{new_name}
use Rattle.document_forms.specs.meaning.Tables.{columns_of, rows_of, index_of}

-- the columns that were read
abbrev pub columns_in : Option (List Column) → List Column
columns_in None = []
columns_in (Some columns) = columns

-- what was read is what these members are read as
pub record IsTableRead (taken : List ℕ → Bool) (ahead : TableAhead) (ms : Named) : Type 0 where
  pub name : option_map (new_name taken) (ms (codes "name")) ≡ option_map
      (λ name. Ok name) ahead.name
  pub columns : option_map columns_of (ms (codes "columns")) ≡ option_map
      (λ columns. Ok columns) ahead.columns
  pub rows : option_map (rows_of (columns_in ahead.columns)) (ms (codes "rows")) ≡ option_map
      (λ rows. Ok rows) ahead.rows
  pub index : option_map (index_of (columns_in ahead.columns)) (ms (codes "index")) ≡ option_map
      (λ index. Ok index) ahead.index

-- the tokens begin with a value, and once it was passed it is read with the members before as the
-- one at this name
abbrev pub PassesMember : (List ℕ → Bool) → ℕ → List ℕ → TableAhead → List Token → TableAhead
    → List Token → Type 0
PassesMember taken depth name old ts new rest = (d : Data) × (value_ahead depth ts ≡ Some (d, rest))
    × ((ms : Named) → IsTableRead taken old ms → IsTableRead taken new (putting name d ms))
