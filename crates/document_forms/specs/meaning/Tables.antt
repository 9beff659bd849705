-- How tables and sequences stand in a document.
use Rattle.std.specs.Prelude.{ℕ, ℤ, pos, List, [], ◌∷◌, length, Bool, false, ◌&&◌, Result, Ok, Err, codes, if◌then◌else◌}
use Rattle.std.specs.Str.{bytes_eq}
use Rattle.serde_json.specs.Data.{Data}
use Rattle.json_form.specs.declared.hexadecimal.Digits.TheVariants as digits
use Rattle.json_form.specs.declared.fault.DocCode.TheVariants.{WrongKind, Unknown}
use Rattle.json_form.specs.meaning.Faults.{Fault, ◌>>=◌, here, within}
use Rattle.json_form.specs.meaning.Values.{text_of, whole_of, bool_of}
use Rattle.json_form.specs.meaning.Objects.{object_with, required, optional}
use Rattle.json_form.specs.meaning.Arrays.{each_after, array_of, list_of, distinct, fresh, fixed, exact_of, part}
use Rattle.json_form.specs.meaning.Texts.{word_of}
use Rattle.svc_values.specs.declared.value.Value.{Value}
use Rattle.svc_values.specs.declared.value.Kind.{Kind}
use Rattle.svc_values.specs.declared.value.Kind.TheVariants as kind
use Rattle.svc_values.specs.declared.schema.Column.{Column}
use Rattle.svc_values.specs.meaning.Kinds.{row_fits, has_column}
use Rattle.svc_values.specs.meaning.Same.{same_value}
use Rattle.svc_values.specs.meaning.Schemas.{key_of}
use Rattle.svc_values.specs.meaning.Texts.{is_name}
use Rattle.outage_schedule.specs.declared.document.DocTable.{DocTable}
use Rattle.outage_schedule.specs.declared.document.DocSequence.{DocSequence}
use Rattle.call_forms.specs.meaning.Values.{new_name, value_of}

abbrev pub kind_words : List (List ℕ × Kind)
kind_words = (codes "int", kind.Int) ∷ (codes "text", kind.Text) ∷ (codes "bytes", kind.Bytes) ∷ []

-- a pair of a new name and a kind
unfoldable pub column_of : (List ℕ → Bool) → Data → Result Column Fault
column_of taken d = fixed 2 d >>= λ ds. part 0 (new_name taken) ds >>= λ name.
    part 1 (word_of kind_words) ds >>= λ k. Ok (record {
      name = name;
      kind = k;
    })

-- 1 to 8 columns of different names
abbrev pub columns_of : Data → Result (List Column) Fault
columns_of d = array_of 1 8 (distinct bytes_eq (λ column. column.name) column_of) d

-- a value of a row: the first one is the key, which is new
abbrev pub field_of : (Value → Bool) → List Value → Data → Result Value Fault
field_of taken [] d = value_of digits.Any d >>= λ key. fresh taken key >>= λ _. Ok key
field_of taken (first ∷ before) d = value_of digits.Any d

abbrev pub fitting : List Column → List Value → Result (List Value) Fault
fitting columns row = if row_fits columns row then Ok row else Err (here WrongKind)

-- as many values as there are columns, in order, and then their kinds
unfoldable pub row_of : List Column → (Value → Bool) → Data → Result (List Value) Fault
row_of columns taken d = exact_of (length columns) d >>= λ ds. each_after (field_of taken) [] ds >>=
    fitting columns

-- at most 10,000 rows of different keys
abbrev pub rows_of : List Column → Data → Result (List (List Value)) Fault
rows_of columns d = array_of 0 10000 (distinct same_value key_of (row_of columns)) d

-- a column's name; each other text is unknown, one that is no name too
abbrev pub known_column : List Column → List ℕ → Result (List ℕ) Fault
known_column columns text = if is_name text && has_column columns text then Ok text else
    Err (here Unknown)

-- the name of a column that does not stand before
unfoldable pub indexed_of : List Column → (List ℕ → Bool) → Data → Result (List ℕ) Fault
indexed_of columns taken d = text_of d >>= known_column columns >>= λ name.
    fresh taken name >>= λ _. Ok name

-- different columns by which the rows are indexed
unfoldable pub index_of : List Column → Data → Result (List (List ℕ)) Fault
index_of columns d = list_of (distinct bytes_eq (λ name. name) (indexed_of columns)) d

abbrev pub table_members : List (List ℕ)
table_members = codes "name" ∷ codes "columns" ∷ codes "rows" ∷ codes "index" ∷ []

unfoldable pub table_of : (List ℕ → Bool) → Data → Result DocTable Fault
table_of taken d =
    object_with table_members d >>= λ ms.
    required (codes "name") ms >>= λ name. required (codes "columns") ms >>= λ columns.
    within (codes "name") (new_name taken name) >>= λ n. within
    (codes "columns") (columns_of columns) >>= λ cs.
    optional (codes "rows") [] (rows_of cs) ms >>= λ rows. optional (codes "index") [] (index_of cs)
    ms >>= λ index.
    Ok (record { name = n; columns = cs; rows = rows; index = index })

-- at most 32 tables of different names
abbrev pub tables_of : Data → Result (List DocTable) Fault
tables_of d = array_of 0 32 (distinct bytes_eq (λ table. table.name) table_of) d

-- a sequence starts at 0 to 1,000,000,000
abbrev pub start_of : Data → Result ℤ Fault
start_of d = whole_of 0 1000000000 d >>= λ n. Ok (pos n)

-- its name is new, and its values are kept or not
unfoldable pub sequence_of : (List ℕ → Bool) → Data → Result DocSequence Fault
sequence_of taken d =
    object_with (codes "name" ∷ codes "start" ∷ codes "keep" ∷ []) d >>= λ ms.
    required (codes "name") ms >>= λ name. required (codes "start") ms >>= λ start.
    within (codes "name") (new_name taken name) >>= λ n. within (codes "start") (start_of start) >>=
    λ s.
    optional (codes "keep") false bool_of ms >>= λ keep. Ok (record {
      name = n;
      start = s;
      keep = keep;
    })

-- at most 32 sequences of different names
abbrev pub sequences_of : Data → Result (List DocSequence) Fault
sequences_of d = array_of 0 32 (distinct bytes_eq (λ sequence. sequence.name) sequence_of) d
