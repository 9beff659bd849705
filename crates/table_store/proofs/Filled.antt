-- Tables that are filled with rows, table by table, have them in order.
use Rattle.std.proofs.Common.{◌≡◌, ◌⊎◌, inl, inr, ℕ, Bool, true, false, cond, List, [], ◌∷◌, ◌++◌, append_assoc, map, refl, sym, ◌∙◌, ap, subst}
use Rattle.std.specs.Prelude.{Option, Some}
use Rattle.std.specs.List.{list_all}
use Rattle.std.specs.List.Sorted.{IsStrictlySortedBy}
use Rattle.std.specs.Map.{update, update_all}
use Rattle.std.specs.Ordering.{nat_cmp, eq_by_cmp, is_eq}
use Rattle.std.specs.Cmp.Lexicographic.{slice_cmp}
use Rattle.std.proofs.lemmas.Bool.{cases_Bool}
use Rattle.std.proofs.lemmas.List.{append-nil}
use Rattle.std.proofs.lemmas.List.Elements.{filter-append}
use Rattle.svc_values.specs.declared.value.Value.{Value}
use Rattle.svc_values.specs.declared.tables.PlainRow.{PlainRow}
use Rattle.svc_values.specs.declared.tables.Place.{Place}
use Rattle.svc_values.specs.declared.tables.Place.TheVariants as place
use Rattle.svc_values.specs.meaning.Order.{value_cmp}
use Rattle.svc_values.specs.meaning.Schemas.{key_of}
use Rattle.svc_values.specs.meaning.Tables.{is_at, rows_at, in_order}
use Rattle.svc_values.specs.Tables.{AreTables}
use Rattle.table_store.specs.Given.{keyed, plain, plain_given}
use Rattle.table_store.specs.Rows.{Shelves, IsShelved, all_rows, row_if_any, row_kept}
use Rattle.table_store.specs.Shelves.{ChangesAll}
use Rattle.table_store.specs.Stored.{AreApart}
use Rattle.table_store.specs.declared.shelves.TableRows.{TableRows}
use Rattle.table_store.proofs.Alike.{filter_pass, filter_skip, same_tables}
use Rattle.table_store.proofs.Changes.{both_true, all_put}
use Rattle.table_store.proofs.Maps.{keys_equal, keys_equal_if, ordered_all, row_of_key, same_if_equal, equal_if_same}
use Rattle.table_store.proofs.Places.{at_place, at_place_if}
use Rattle.table_store.proofs.Writes.{not_at_first, filter_put_other, filter_put_own, ordered_put}

-- ---- rows that are put in order

-- they stand where they stood
none_in_order : (rows : List PlainRow) (table : List ℕ) (key : Value) → rows_at rows (place.Row table key) ≡ [] → rows_at (in_order rows) (place.Row table key) ≡ []
none_in_order [] table key none = refl
none_in_order (row ∷ rest) table key none =
    let apart = not_at_first (place.Row table key) row rest none in
    filter_put_other (is_at (place.Row table key)) row (in_order rest) apart
    ∙ none_in_order rest table key (sym (filter_skip (is_at (place.Row table key)) row rest apart) ∙ none)

at_in_order : (rows : List PlainRow) → AreApart rows → (table : List ℕ) (key : Value) → rows_at (in_order rows) (place.Row table key) ≡ rows_at rows (place.Row table key)
at_in_order [] apart table key = refl
at_in_order (row ∷ rest) apart table key =
    let at : Place = place.Row table key in
    elim (cases_Bool (is_at at row)) [
      | inl here ↦
          let own = at_place table key row here in
          let none : rows_at rest at ≡ [] = subst (λ (t : List ℕ). rows_at rest (place.Row t key) ≡ []) own.0 (subst (λ (k : Value). rows_at rest (place.Row row.table k) ≡ []) own.1 apart.0) in
          filter_put_own (is_at at) row (in_order rest) here (none_in_order rest table key none)
          ∙ sym (filter_pass (is_at at) row rest here ∙ ap (λ l. row ∷ l) none)
      | inr away ↦ filter_put_other (is_at at) row (in_order rest) away ∙ at_in_order rest apart.1 table key ∙ sym (filter_skip (is_at at) row rest away)
    ]

ordered_in_order : (rows : List PlainRow) → AreApart rows → AreTables (in_order rows)
ordered_in_order [] apart = tt
ordered_in_order (row ∷ rest) apart = ordered_put row (in_order rest) (ordered_in_order rest apart.1) (none_in_order rest row.table row.key apart.0)

pub all_in_order : (p : PlainRow → Bool) (rows : List PlainRow) → list_all p rows ≡ true → list_all p (in_order rows) ≡ true
all_in_order p [] all = refl
all_in_order p (row ∷ rest) all =
    let parts = both_true (p row) (list_all p rest) all in
    all_put p row (in_order rest) parts.0 (all_in_order p rest parts.1)

-- ---- rows that are apart

not_among : (before : List PlainRow) (row : PlainRow) (behind : List PlainRow) (at : Place) → rows_at (before ++ row ∷ behind) at ≡ [] → is_at at row ≡ false
not_among [] row behind at none = not_at_first at row behind none
not_among (first ∷ before) row behind at none =
    not_among before row behind at (sym (filter_skip (is_at at) first (before ++ row ∷ behind) (not_at_first at first (before ++ row ∷ behind) none)) ∙ none)

-- none of the rows before stands at the place of a later one
none_before : (before : List PlainRow) (row : PlainRow) (behind : List PlainRow) → AreApart (before ++ row ∷ behind) → rows_at before (place.Row row.table row.key) ≡ []
none_before [] row behind apart = refl
none_before (first ∷ before) row behind apart =
    filter_skip (is_at (place.Row row.table row.key)) first before (away (cases_Bool (is_at (place.Row row.table row.key) first))) ∙ none_before before row behind apart.1
  where
    away : (is_at (place.Row row.table row.key) first ≡ true) ⊎ (is_at (place.Row row.table row.key) first ≡ false) → is_at (place.Row row.table row.key) first ≡ false
    away (inl here) =
        let own = at_place row.table row.key first here in
        let there : is_at (place.Row first.table first.key) row ≡ true = at_place_if first.table first.key row (sym own.0) (sym own.1) in
        let never : true ≡ false = sym there ∙ not_among before row behind (place.Row first.table first.key) apart.0 in cc
    away (inr other) = other

-- ---- a map that is filled

abbrev same_key : Value → Value → Bool
same_key = eq_by_cmp value_cmp

abbrev given_row : List ℕ → List Value → PlainRow
given_row table row = record { table = table; key = key_of row; row = row }

-- one row behind others
one_more : (table : List ℕ) (row : List Value) (before behind : List PlainRow) (kept : Value → Option (List Value))
    → AreApart (before ++ given_row table row ∷ behind)
    → ((k : Value) → row_if_any table k (kept k) ≡ rows_at before (place.Row table k))
    → (k : Value) → row_if_any table k (update same_key kept (key_of row) (Some row) k) ≡ rows_at (before ++ given_row table row ∷ []) (place.Row table k)
one_more table row before behind kept apart so_far k =
    let at : Place = place.Row table k in
    let one : PlainRow = given_row table row in
    elim (cases_Bool (same_key (key_of row) k)) [
      | inl here ↦
          let same : key_of row ≡ k = keys_equal (key_of row) k here in
          let none : rows_at before at ≡ [] = subst (λ (q : Value). rows_at before (place.Row table q) ≡ []) same (none_before before one behind apart) in
          ap (λ b. row_if_any table k (cond b (Some row) (kept k))) here
          ∙ ap (λ (q : Value). (let found : PlainRow = record { table = table; key = q; row = row } in found) ∷ []) (sym same)
          ∙ sym (filter-append (is_at at) before (one ∷ []) ∙ ap (λ l. l ++ rows_at (one ∷ []) at) none ∙ filter_pass (is_at at) one [] (at_place_if table k one refl same))
      | inr other ↦
          ap (λ b. row_if_any table k (cond b (Some row) (kept k))) other ∙ so_far k
          ∙ sym (filter-append (is_at at) before (one ∷ []) ∙ ap (λ l. rows_at before at ++ l) (filter_skip (is_at at) one [] (away other (cases_Bool (is_at at one)))) ∙ append-nil (rows_at before at))
    ]
  where
    away : same_key (key_of row) k ≡ false → (is_at (place.Row table k) (given_row table row) ≡ true) ⊎ (is_at (place.Row table k) (given_row table row) ≡ false) → is_at (place.Row table k) (given_row table row) ≡ false
    away other (inl there) = let never : true ≡ false = sym (keys_equal_if (key_of row) k (at_place table k (given_row table row) there).1) ∙ other in cc
    away other (inr apart_there) = apart_there

each_more : (table : List ℕ) (rows : List (List Value)) (before others : List PlainRow) (kept : Value → Option (List Value))
    → AreApart (before ++ (plain_given table rows ++ others))
    → ((k : Value) → row_if_any table k (kept k) ≡ rows_at before (place.Row table k))
    → (k : Value) → row_if_any table k (update_all same_key kept (map keyed rows) k) ≡ rows_at (before ++ plain_given table rows) (place.Row table k)
each_more table [] before others kept apart so_far k = so_far k ∙ sym (ap (λ l. rows_at l (place.Row table k)) (append-nil before))
each_more table (row ∷ rows) before others kept apart so_far k =
    let one : PlainRow = given_row table row in
    each_more table rows (before ++ one ∷ []) others (update same_key kept (key_of row) (Some row))
    (subst AreApart (sym (append_assoc before (one ∷ []) (plain_given table rows ++ others))) apart)
    (one_more table row before (plain_given table rows ++ others) kept apart so_far) k
    ∙ ap (λ l. rows_at l (place.Row table k)) (append_assoc before (one ∷ []) (plain_given table rows))

-- none of another table
none_of_table : (table other : List ℕ) (key : Value) (rows : List (List Value)) → is_eq (slice_cmp nat_cmp table other) ≡ false → rows_at (plain_given table rows) (place.Row other key) ≡ []
none_of_table table other key [] differ = refl
none_of_table table other key (row ∷ rows) differ =
    filter_skip (is_at (place.Row other key)) (given_row table row) (plain_given table rows) (away (cases_Bool (is_at (place.Row other key) (given_row table row)))) ∙ none_of_table table other key rows differ
  where
    away : (is_at (place.Row other key) (given_row table row) ≡ true) ⊎ (is_at (place.Row other key) (given_row table row) ≡ false) → is_at (place.Row other key) (given_row table row) ≡ false
    away (inl there) = let never : true ≡ false = sym (equal_if_same table other (at_place other key (given_row table row) there).0) ∙ differ in cc
    away (inr apart) = apart

-- the maps have exactly these rows
abbrev pub HasRows : Shelves → List PlainRow → Type 0
HasRows shelves rows = (t : List ℕ) (k : Value) → row_if_any t k (row_kept shelves t k) ≡ rows_at rows (place.Row t k)

-- empty maps have none
pub none_yet : (shelves : Shelves) → shelves ≡ [] → IsShelved shelves × HasRows shelves []
unfolding IsStrictlySortedBy
none_yet shelves empty = subst (λ (s : Shelves). IsShelved s × HasRows s []) (sym empty) ((tt, tt), λ t k. refl)

-- after one more table
pub table_more : (old new : Shelves) (table : List ℕ) (rows : List (List Value)) (before others : List PlainRow)
    → AreApart (before ++ (plain_given table rows ++ others))
    → ChangesAll old table (map keyed rows) new → HasRows old before → HasRows new (before ++ plain_given table rows)
table_more old new table rows before others apart changed so_far t k =
    elim (cases_Bool (is_eq (slice_cmp nat_cmp table t))) [
      | inl here ↦
          let same : table ≡ t = same_if_equal table t here in
          ap (row_if_any t k) (changed t k ∙ ap (λ b. cond b (update_all same_key (row_kept old t) (map keyed rows) k) (row_kept old t k)) here)
          ∙ subst (λ (u : List ℕ). row_if_any u k (update_all same_key (row_kept old u) (map keyed rows) k) ≡ rows_at (before ++ plain_given table rows) (place.Row u k)) same
          (each_more table rows before others (row_kept old table) apart (so_far table) k)
      | inr differ ↦
          ap (row_if_any t k) (changed t k ∙ ap (λ b. cond b (update_all same_key (row_kept old t) (map keyed rows) k) (row_kept old t k)) differ)
          ∙ so_far t k
          ∙ sym (filter-append (is_at (place.Row t k)) before (plain_given table rows) ∙ ap (λ l. rows_at before (place.Row t k) ++ l) (none_of_table table t k rows differ) ∙ append-nil (rows_at before (place.Row t k)))
    ]

-- in the end they have them in order
pub filled_with : (shelves : Shelves) (rows : List PlainRow) → IsShelved shelves → AreApart rows → HasRows shelves rows → all_rows shelves ≡ in_order rows
filled_with shelves rows shelved apart has =
    same_tables (all_rows shelves) (in_order rows) (ordered_all shelves shelved) (ordered_in_order rows apart)
    (λ t k. row_of_key shelves t k shelved ∙ has t k ∙ sym (at_in_order rows apart t k))

-- the table in front of those that are left is the next one
pub split_next : (before all : List PlainRow) (left rest : List TableRows) (one : TableRows) → before ++ plain left ≡ all → left ≡ one ∷ rest → (before ++ plain_given one.table one.rows.items) ++ plain rest ≡ all
split_next before all left rest one so_far next =
    append_assoc before (plain_given one.table one.rows.items) (plain rest) ∙ ap (λ l. before ++ plain l) (sym next) ∙ so_far
