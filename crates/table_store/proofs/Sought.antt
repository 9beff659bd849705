-- Between which keys the rows stand that may meet a test.
use Rattle.std.proofs.Common.{◌≡◌, inl, inr, ℕ, zero, suc, Bool, true, false, cond, List, [], ◌∷◌, refl, sym, ◌∙◌, ap, subst}
use Rattle.std.specs.Prelude.{Option, Some, None, map, slice_get}
use Rattle.std.specs.declared.cmp.Ordering.{Ordering}
use Rattle.std.specs.declared.cmp.Ordering.TheVariants.{Less, Equal, Greater}
use Rattle.std.specs.Ordering.{is_eq, is_gt, ordering_reverse}
use Rattle.std.specs.Range.Bound.{IsForward}
use Rattle.std.specs.BTreeMap.Range.{entries_between, range_contains, IsLeBy, IsLtBy}
use Rattle.std.proofs.lemmas.Bool.{cases_Bool}
use Rattle.std.proofs.lemmas.Cmp.{tied_itself}
use Rattle.svc_values.specs.declared.schema.Schema.{Schema}
use Rattle.svc_values.specs.declared.statement.Test.{Test}
use Rattle.svc_values.specs.declared.statement.Test.TheVariants as test
use Rattle.svc_values.specs.declared.tables.PlainRow.{PlainRow}
use Rattle.svc_values.specs.declared.tables.Place.TheVariants as place
use Rattle.svc_values.specs.declared.value.Value.{Value}
use Rattle.svc_values.specs.meaning.Fitting.{is_row_of}
use Rattle.svc_values.specs.meaning.Kinds.{row_fits}
use Rattle.svc_values.specs.meaning.Order.{value_cmp}
use Rattle.svc_values.specs.meaning.Same.{same_value}
use Rattle.svc_values.specs.meaning.Schemas.{key_of, schema_of}
use Rattle.svc_values.specs.meaning.Tables.{is_at, rows_at}
use Rattle.svc_values.specs.meaning.Tests.{meets, value_meets}
use Rattle.svc_values.specs.Fitting.{tables_fit}
use Rattle.svc_values.specs.SameLaws.{same_value_decides}
use Rattle.svc_values.proofs.Offered.{value_cmp_total}
use Rattle.table_store.specs.Given.{keyed_rows}
use Rattle.table_store.specs.Rows.{Keyed, KeysFirst, keyed_of, plain_rows}
use Rattle.table_store.specs.Selection.{keys_sought, meeting, values_between}
use Rattle.table_store.specs.Stored.{Stored, AreKept}
use Rattle.table_store.proofs.Changes.{both_true}
use Rattle.table_store.proofs.Keeps.{fits_one, keyed_in}
use Rattle.table_store.proofs.Maps.{keys_equal}

-- ---- the bounds

abbrev pub in_sought : ℕ → Test → Value → Value → Bool
in_sought column t than key = range_contains value_cmp (keys_sought column t than).0 (keys_sought column t than).1 key

pub sought_forward : (column : ℕ) (t : Test) (than : Value) → IsForward (IsLeBy value_cmp) (IsLtBy value_cmp) (keys_sought column t than).0 (keys_sought column t than).1
sought_forward zero test.Eq than = ap is_gt (tied_itself value_cmp_total than)
sought_forward zero test.Lt than = tt
sought_forward zero test.Ge than = tt
sought_forward (suc column) t than = tt

by_order : (t : Test) (than v : Value) (o : Ordering) → value_cmp v than ≡ o → value_cmp than v ≡ ordering_reverse o
    → range_contains value_cmp (values_between t than).0 (values_between t than).1 v ≡ meets t (value_cmp v than)
by_order test.Eq than v Less e r = rw (e, r) refl
by_order test.Eq than v Equal e r = rw (e, r) refl
by_order test.Eq than v Greater e r = rw (e, r) refl
by_order test.Lt than v Less e r = rw (e, r) refl
by_order test.Lt than v Equal e r = rw (e, r) refl
by_order test.Lt than v Greater e r = rw (e, r) refl
by_order test.Ge than v Less e r = rw (e, r) refl
by_order test.Ge than v Equal e r = rw (e, r) refl
by_order test.Ge than v Greater e r = rw (e, r) refl

-- between them are exactly the values that meet the test
between_meets : (t : Test) (than v : Value) → range_contains value_cmp (values_between t than).0 (values_between t than).1 v ≡ meets t (value_cmp v than)
between_meets t than v = by_order t than v (value_cmp v than) refl (value_cmp_total.antisymm than v)

-- a row that meets the test has its key between the bounds
pub sought_meets : (column : ℕ) (t : Test) (than key : Value) (row : List Value) → key_of row ≡ key → value_meets t than (slice_get row column) ≡ true → in_sought column t than key ≡ true
sought_meets (suc column) t than key row first h = refl
sought_meets zero t than key [] first h = cc
sought_meets zero t than key (v ∷ rest) first h = subst (λ (k : Value). in_sought zero t than k ≡ true) first (between_meets t than v ∙ h)

-- and one whose key is not between them does not meet it
pub sought_skips : (column : ℕ) (t : Test) (than key : Value) (row : List Value) → key_of row ≡ key → in_sought column t than key ≡ false → value_meets t than (slice_get row column) ≡ false
sought_skips column t than key row first out =
    elim (cases_Bool (value_meets t than (slice_get row column))) [
      | inl h ↦ let never : true ≡ false = sym (sought_meets column t than key row first h) ∙ out in cc
      | inr h ↦ h
    ]

-- ---- the rows between them

-- the rows that meet a test are those between the bounds that do
pub meeting_sought : (column : ℕ) (t : Test) (than : Value) (rows : Keyed) → KeysFirst rows
    → meeting column t than (entries_between value_cmp (keys_sought column t than).0 (keys_sought column t than).1 rows) ≡ meeting column t than rows
meeting_sought column t than [] firsts = refl
meeting_sought column t than (entry ∷ rest) firsts = by_test (in_sought column t than entry.0) refl (meeting_sought column t than rest firsts.1)
  where
    by_test : (b : Bool) → in_sought column t than entry.0 ≡ b → meeting column t than (entries_between value_cmp (keys_sought column t than).0 (keys_sought column t than).1 rest) ≡ meeting column t than rest
        → meeting column t than (cond b (entry ∷ entries_between value_cmp (keys_sought column t than).0 (keys_sought column t than).1 rest) (entries_between value_cmp (keys_sought column t than).0 (keys_sought column t than).1 rest))
        ≡ meeting column t than (entry ∷ rest)
    by_test true e same = ap (λ (l : Keyed). cond (value_meets t than (slice_get entry.1 column)) (entry ∷ l) l) same
    by_test false e same =
        same ∙ sym (ap (λ b. cond b (entry ∷ meeting column t than rest) (meeting column t than rest)) (sought_skips column t than entry.0 entry.1 firsts.0 e))

-- a row that is found stands at its first value
pub first_at : (rows : Keyed) (key : Value) (row : List Value) → KeysFirst rows → keyed_of rows key ≡ Some row → key_of row ≡ key
first_at [] key row firsts h = cc
first_at (entry ∷ rest) key row firsts h =
    elim (cases_Bool (is_eq (value_cmp key entry.0))) [
      | inl here ↦
          let found : Some entry.1 ≡ Some row = sym (ap (λ b. cond b (Some entry.1) (keyed_of rest key)) here) ∙ h in
          let same : entry.1 ≡ row = cc in
          ap key_of (sym same) ∙ firsts.0 ∙ sym (keys_equal key entry.0 here)
      | inr away ↦ first_at rest key row firsts.1 (sym (ap (λ b. cond b (Some entry.1) (keyed_of rest key)) away) ∙ h)
    ]

-- ---- rows that fit

pub first_of_fit : (schema : Option Schema) (row : PlainRow) → is_row_of schema row.key row.row ≡ true → key_of row.row ≡ row.key
first_of_fit None row fit = cc
first_of_fit (Some schema) row fit = (same_value_decides (key_of row.row) row.key).0 (both_true (row_fits schema.columns row.row) (same_value (key_of row.row) row.key) fit).1

-- rows that fit what is declared stand at their first values
pub firsts_of_fit : (schemas : List Schema) (rows : List PlainRow) (table : List ℕ) → tables_fit schemas rows ≡ true → KeysFirst (keyed_rows rows table)
firsts_of_fit schemas [] table fit = tt
firsts_of_fit schemas (row ∷ rest) table fit =
    let parts = both_true (fits_one schemas row) (tables_fit schemas rest) fit in
    by_table (is_at (place.Table table) row) (first_of_fit (schema_of schemas row.table) row parts.0) (firsts_of_fit schemas rest table parts.1)
  where
    by_table : (b : Bool) → key_of row.row ≡ row.key → KeysFirst (keyed_rows rest table) → KeysFirst (map (λ one. (one.key, one.row)) (cond b (row ∷ rows_at rest (place.Table table)) (rows_at rest (place.Table table))))
    by_table true first more = (first, more)
    by_table false first more = more

-- and so do those of a table that is kept
pub firsts_in : (tables : Stored) (table : List ℕ) (entries : Keyed) → AreKept tables → rows_at tables.rows (place.Table table) ≡ plain_rows table entries → KeysFirst entries
firsts_in tables table entries kept found = subst KeysFirst (keyed_in table entries tables.rows found) (firsts_of_fit tables.schemas tables.rows table kept.fitting)
