-- What tables that were read keep to.
use Rattle.std.proofs.Common.{◌≡◌, ◌≤◌, ℕ, ◌&&◌, List, [], ◌∷◌, ◌++◌, length, Bool, true, false, Result, Ok, codes, refl, sym, ap, ◌∙◌, arith, subst}
use Rattle.std.specs.Prelude.{not}
use Rattle.std.specs.List.{list_all}
use Rattle.std.specs.Str.{bytes_eq}
use Rattle.std.proofs.lemmas.Bool.{le-leb}
use Rattle.serde_json.specs.Data.{Data}
use Rattle.json_form.specs.declared.hexadecimal.Digits.TheVariants as digits
use Rattle.json_form.specs.declared.fault.DocCode.TheVariants.{WrongKind, Unknown}
use Rattle.json_form.specs.meaning.Faults.{Fault, ◌>>=◌, here, within}
use Rattle.json_form.specs.meaning.Pointers.{escaped}
use Rattle.json_form.specs.meaning.Objects.{Named, object_with, required, optional}
use Rattle.json_form.specs.meaning.Arrays.{Placed, each_after, fixed, distinct, fresh, exact_of, part}
use Rattle.json_form.specs.Arrays.{have_distinct_keys}
use Rattle.json_form.specs.meaning.Texts.{word_of}
use Rattle.json_form.specs.meaning.Values.{items_of, text_of}
use Rattle.svc_values.specs.declared.value.Value.{Value}
use Rattle.svc_values.specs.declared.schema.Column.{Column}
use Rattle.svc_values.specs.meaning.Kinds.{row_fits, has_column, have_distinct_names}
use Rattle.svc_values.specs.meaning.Same.{same_value}
use Rattle.svc_values.specs.meaning.Schemas.{key_of}
use Rattle.svc_values.specs.meaning.Texts.{is_name}
use Rattle.outage_schedule.specs.declared.document.DocTable.{DocTable}
use Rattle.call_forms.specs.meaning.Values.{name_of, new_name, value_of}
use Rattle.document_forms.specs.meaning.Tables.{kind_words, column_of, field_of, fitting, row_of, rows_of, columns_of, known_column, indexed_of, index_of, table_of}
use Rattle.document_forms.specs.Keeping.{is_table}
use Rattle.json_form.proofs.Offered.{after, ok_is, within_ok, passed, second_true, each_keeps, each_long, read_array, both_true, part_read, new_key, optional_keeps}
use Rattle.json_form.proofs.Offered.{distinct_read, distinct_all}

abbrev with_kind : Placed → List ℕ → Result Column Fault
with_kind ds name = part 1 (word_of kind_words) ds >>= λ k. Ok (record { name = name; kind = k })

column_new : (taken : List ℕ → Bool) (d : Data) (column : Column) → column_of taken d ≡ Ok column → taken column.name ≡ false
unfolding column_of
column_new taken d column h =
    let a = after (fixed 2 d) (λ ds. part 0 (new_name taken) ds >>= with_kind ds) column h in
    let b = after (part 0 (new_name taken) a.0) (with_kind a.0) column a.2 in
    let c = after (part 1 (word_of kind_words) a.0) (λ k. Ok (record { name = b.0; kind = k })) column b.2 in
    let p = part_read 0 (new_name taken) a.0 b.0 b.1 in
    let same : column.name ≡ b.0 = ap (λ (r : Column). r.name) (sym (ok_is _ column c.2)) in ap taken same ∙ new_key (name_of p.0) taken b.0 p.1

names_are_keys : (columns : List Column) → have_distinct_names columns ≡ have_distinct_keys bytes_eq (λ column. column.name) columns
names_are_keys [] = refl
names_are_keys (column ∷ columns) = ap (λ b. not (has_column columns column.name) && b) (names_are_keys columns)

-- columns that were read are some, of different names
columns_read : (d : Data) (columns : List Column) → columns_of d ≡ Ok columns → (1 ≤ length columns) × (have_distinct_names columns ≡ true)
columns_read d columns h =
    let a = read_array 1 8 (distinct bytes_eq (λ column. column.name) column_of) d columns h in
    let long = each_long _ [] a.items columns a.gave in
    let enough = a.enough in (
      omega (arith, long, enough),
      names_are_keys columns ∙ distinct_read bytes_eq (λ column. column.name) column_of column_new a.items columns a.gave,
    )

-- the key of the values read so far is new
abbrev KeyIsNew : (Value → Bool) → List Value → Type 0
KeyIsNew taken [] = Unit {0}
KeyIsNew taken (key ∷ rest) = taken key ≡ false

field_new : (taken : Value → Bool) (before : List Value) (d : Data) (x : Value) → KeyIsNew taken before → field_of taken before d ≡ Ok x → KeyIsNew taken (before ++ x ∷ [])
field_new taken [] d x good h = new_key (value_of digits.Any d) taken x h
field_new taken (key ∷ rest) d x good h = good

row_key : (taken : Value → Bool) (columns : List Column) (row : List Value) → 1 ≤ length columns → row_fits columns row ≡ true → KeyIsNew taken row → taken (key_of row) ≡ false
row_key taken [] row some fits new = absurd (omega arith)
row_key taken (column ∷ columns) [] some fits new = absurd (cc)
row_key taken (column ∷ columns) (key ∷ rest) some fits new = new

-- a row that was read fits, and its key is new
row_read : (columns : List Column) (taken : Value → Bool) (d : Data) (row : List Value) → row_of columns taken d ≡ Ok row → (row_fits columns row ≡ true) × KeyIsNew taken row
unfolding row_of
row_read columns taken d row h =
    let a = after (exact_of (length columns) d) (λ ds. each_after (field_of taken) [] ds >>= fitting columns) row h in
    let b = after (each_after (field_of taken) [] a.0) (fitting columns) row a.2 in
    let c = passed (row_fits columns b.0) (Ok b.0) (here WrongKind) row b.2 in
    let same : b.0 ≡ row = cc in
    let fits : row_fits columns row ≡ true = ap (row_fits columns) (sym same) ∙ c.0 in (fits, each_keeps (KeyIsNew taken) (field_of taken) (field_new taken) [] a.0 row tt (b.1 ∙ ap Ok same))

record AreRows (columns : List Column) (rows : List (List Value)) : Type 0 where
  fit : list_all (row_fits columns) rows ≡ true
  apart : have_distinct_keys same_value key_of rows ≡ true
  few : length rows ≤ 10000

rows_read : (columns : List Column) (d : Data) (rows : List (List Value)) → 1 ≤ length columns → rows_of columns d ≡ Ok rows → AreRows columns rows
rows_read columns d rows some h =
    let a = read_array 0 10000 (distinct same_value key_of (row_of columns)) d rows h in
    let long = each_long _ [] a.items rows a.gave in
    let few = a.few in record {
      fit = distinct_all same_value key_of (row_fits columns) (row_of columns) (λ taken inner row one. (row_read columns taken inner row one).0) a.items rows a.gave;
      apart = distinct_read same_value key_of (row_of columns) (λ taken inner row one. row_key taken columns row some (row_read columns taken inner row one).0 (row_read columns taken inner row one).1) a.items rows a.gave;
      few = omega (arith, long, few);
    }

no_rows : (columns : List Column) → AreRows columns []
no_rows columns = record { fit = refl; apart = refl; few = omega arith }

-- what an index that was read keeps to: different names of columns
record AreIndexed (columns : List Column) (names : List (List ℕ)) : Type 0 where
  known : list_all (has_column columns) names ≡ true
  apart : have_distinct_keys bytes_eq (λ name. name) names ≡ true

abbrev when_new : (List ℕ → Bool) → List ℕ → Result (List ℕ) Fault
when_new taken name = fresh taken name >>= λ _. Ok name

indexed_read : (columns : List Column) (taken : List ℕ → Bool) (d : Data) (name : List ℕ) → indexed_of columns taken d ≡ Ok name → (has_column columns name ≡ true) × (taken name ≡ false)
unfolding indexed_of
indexed_read columns taken d name h =
    let a = after (text_of d >>= known_column columns) (when_new taken) name h in
    let b = after (text_of d) (known_column columns) a.0 a.1 in
    let c = passed (is_name b.0 && has_column columns b.0) (Ok b.0) (here Unknown) a.0 b.2 in
    let e = after (fresh taken a.0) (λ _. Ok a.0) name a.2 in
    let same : b.0 ≡ name = ok_is b.0 a.0 c.1 ∙ ok_is a.0 name e.2 in (
      ap (has_column columns) (sym same) ∙ second_true _ _ c.0,
      new_key (text_of d >>= known_column columns) taken name h,
    )

index_read : (columns : List Column) (d : Data) (names : List (List ℕ)) → index_of columns d ≡ Ok names → AreIndexed columns names
unfolding index_of
index_read columns d names h =
    let b = after (items_of d) (distinct bytes_eq (λ name. name) (indexed_of columns)) names h in record {
      known = distinct_all bytes_eq (λ name. name) (has_column columns) (indexed_of columns) (λ taken inner name one. (indexed_read columns taken inner name one).0) b.0 names b.2;
      apart = distinct_read bytes_eq (λ name. name) (indexed_of columns) (λ taken inner name one. (indexed_read columns taken inner name one).1) b.0 names b.2;
    }

no_index : (columns : List Column) → AreIndexed columns []
no_index columns = record { known = refl; apart = refl }

abbrev with_index : Named → List ℕ → List Column → List (List Value) → Result DocTable Fault
with_index ms n cs rows = optional (codes "index") [] (index_of cs) ms >>= λ index. Ok (record { name = n; columns = cs; rows = rows; index = index })

abbrev with_rows : Named → List ℕ → List Column → Result DocTable Fault
with_rows ms n cs = optional (codes "rows") [] (rows_of cs) ms >>= with_index ms n cs

abbrev with_columns : Named → Data → List ℕ → Result DocTable Fault
with_columns ms columns n = within (codes "columns") (columns_of columns) >>= with_rows ms n

abbrev with_name : (List ℕ → Bool) → Named → Data → Data → Result DocTable Fault
with_name taken ms name columns = within (codes "name") (new_name taken name) >>= with_columns ms columns

abbrev from_name : (List ℕ → Bool) → Named → Data → Result DocTable Fault
from_name taken ms name = required (codes "columns") ms >>= with_name taken ms name

pub record ReadTable (taken : List ℕ → Bool) (table : DocTable) : Type 0 where
  pub new : taken table.name ≡ false
  pub keeps : is_table table ≡ true

built_table : (n : List ℕ) (cs : List Column) (rows : List (List Value)) (index : List (List ℕ)) → (1 ≤ length cs) × (have_distinct_names cs ≡ true) → AreRows cs rows → AreIndexed cs index → is_table (record { name = n; columns = cs; rows = rows; index = index }) ≡ true
unfolding is_table
built_table n cs rows index columns are indexed =
    both_true _ _ (both_true _ _ (le-leb 1 (length cs) columns.0) columns.1) (both_true _ _ are.fit (both_true _ _ are.apart (both_true _ _ (le-leb (length rows) 10000 are.few) (both_true _ _ indexed.known indexed.apart))))

-- a table that was read keeps to its columns, and its name is new
pub table_read : (taken : List ℕ → Bool) (d : Data) (table : DocTable) → table_of taken d ≡ Ok table → ReadTable taken table
unfolding table_of
table_read taken d table h =
    let a = after (object_with (codes "name" ∷ codes "columns" ∷ codes "rows" ∷ codes "index" ∷ []) d) (λ ms. required (codes "name") ms >>= from_name taken ms) table h in
    let ms = a.0 in
    let b = after (required (codes "name") ms) (from_name taken ms) table a.2 in
    let c = after (required (codes "columns") ms) (with_name taken ms b.0) table b.2 in
    let n = after (within (codes "name") (new_name taken b.0)) (with_columns ms c.0) table c.2 in
    let cs = after (within (codes "columns") (columns_of c.0)) (with_rows ms n.0) table n.2 in
    let rows = after (optional (codes "rows") [] (rows_of cs.0) ms) (with_index ms n.0 cs.0) table cs.2 in
    let index = after (optional (codes "index") [] (index_of cs.0) ms) (λ names. Ok (record { name = n.0; columns = cs.0; rows = rows.0; index = names })) table rows.2 in
    let columns = columns_read c.0 cs.0 (within_ok (escaped (codes "columns")) (columns_of c.0) cs.0 cs.1) in
    let are = optional_keeps (AreRows cs.0) (codes "rows") [] (rows_of cs.0) ms rows.0 (no_rows cs.0) (λ inner found one. rows_read cs.0 inner found columns.0 one) rows.1 in
    let indexed = optional_keeps (AreIndexed cs.0) (codes "index") [] (index_of cs.0) ms index.0 (no_index cs.0) (index_read cs.0) index.1 in
    let new = new_key (name_of b.0) taken n.0 (within_ok (escaped (codes "name")) (new_name taken b.0) n.0 n.1) in
    let made : DocTable = record { name = n.0; columns = cs.0; rows = rows.0; index = index.0 } in
    let same : made ≡ table = ok_is made table index.2 in
    subst (ReadTable taken) {x = made} same (record { new = new; keeps = built_table n.0 cs.0 rows.0 index.0 columns are indexed })
