-- The rows of a base fit its tables, and no table and key stands twice.
use Rattle.std.proofs.Common.{◌≡◌, ℕ, List, [], ◌∷◌, ◌++◌, map, Bool, true, false, refl, sym, ap, ◌∙◌}
use Rattle.std.specs.Prelude.{Some, ◌&&◌, ◌||◌, if◌then◌else◌}
use Rattle.std.specs.List.{list_all, list_any, flat_map}
use Rattle.std.specs.Str.{bytes_eq}
use Rattle.std.proofs.lemmas.Bool.{not-true}
use Rattle.std.proofs.lemmas.List.Folds.{list_all-append}
use Rattle.std.proofs.lemmas.Slice.Eq.{bytes_eq-Decides}
use Rattle.svc_values.specs.declared.value.Value.{Value}
use Rattle.svc_values.specs.declared.schema.Schema.{Schema}
use Rattle.svc_values.specs.meaning.Kinds.{row_fits}
use Rattle.svc_values.specs.meaning.Names.{is_name_of, names_differ}
use Rattle.svc_values.specs.meaning.Same.{same_value}
use Rattle.svc_values.specs.SameLaws.{same_value_decides}
use Rattle.svc_values.specs.meaning.Schemas.{is_declared, schema_of, key_of}
use Rattle.svc_values.specs.declared.tables.PlainRow.{PlainRow}
use Rattle.svc_values.specs.declared.tables.Place.{Place}
use Rattle.svc_values.specs.declared.tables.Place.TheVariants as place
use Rattle.svc_values.specs.meaning.Tables.{is_at, rows_at}
use Rattle.svc_values.specs.meaning.Fitting.{is_row_of}
use Rattle.svc_values.specs.Fitting.{tables_fit}
use Rattle.table_store.specs.Stored.{AreApart}
use Rattle.commit_log.specs.declared.base.Base.{Base}
use Rattle.commit_log.specs.declared.base.BaseTable.{BaseTable}
use Rattle.commit_log.specs.meaning.Bases.{is_base, is_table, is_sequence, keys_differ, table_name, sequence_name, rows_of, schema_in, schemas_of}
use Rattle.commit_log.specs.Bases.{IsBase}
use Rattle.journal_tables.specs.Written.{plain_row}

pub first_true : (a b : Bool) → (a && b) ≡ true → a ≡ true
first_true true b h = refl
first_true false b h = absurd (cc)

pub second_true : (a b : Bool) → (a && b) ≡ true → b ≡ true
second_true true b h = h
second_true false b h = absurd (cc)

pub both_true : (a b : Bool) → a ≡ true → b ≡ true → (a && b) ≡ true
both_true true b ha hb = hb
both_true false b ha hb = ha

-- ---- what a base keeps to

pub table_names_differ : (base : Base) → IsBase base → names_differ (map table_name base.tables) ≡ true
unfolding is_base
table_names_differ base is = first_true (names_differ (map table_name base.tables)) (names_differ (map sequence_name base.sequences) && (list_all is_table base.tables && list_all is_sequence base.sequences)) is

later : (base : Base) → IsBase base → (names_differ (map sequence_name base.sequences) && (list_all is_table base.tables && list_all is_sequence base.sequences)) ≡ true
unfolding is_base
later base is = second_true (names_differ (map table_name base.tables)) (names_differ (map sequence_name base.sequences) && (list_all is_table base.tables && list_all is_sequence base.sequences)) is

pub sequence_names_differ : (base : Base) → IsBase base → names_differ (map sequence_name base.sequences) ≡ true
sequence_names_differ base is = first_true (names_differ (map sequence_name base.sequences)) (list_all is_table base.tables && list_all is_sequence base.sequences) (later base is)

pub are_tables : (base : Base) → IsBase base → list_all is_table base.tables ≡ true
are_tables base is = first_true (list_all is_table base.tables) (list_all is_sequence base.sequences) (second_true (names_differ (map sequence_name base.sequences)) (list_all is_table base.tables && list_all is_sequence base.sequences) (later base is))

pub sequences_begin : (base : Base) → IsBase base → list_all is_sequence base.sequences ≡ true
sequences_begin base is = second_true (list_all is_table base.tables) (list_all is_sequence base.sequences) (second_true (names_differ (map sequence_name base.sequences)) (list_all is_table base.tables && list_all is_sequence base.sequences) (later base is))

same_bytes : (a : List ℕ) → bytes_eq a a ≡ true
same_bytes a = (bytes_eq-Decides a a).1 refl

other_bytes : (a b : List ℕ) → bytes_eq b a ≡ false → bytes_eq a b ≡ false
other_bytes a b e = by_test (bytes_eq a b) refl
  where
    by_test : (t : Bool) → bytes_eq a b ≡ t → t ≡ false
    by_test false h = refl
    by_test true h = absurd (let back : bytes_eq b a ≡ true = (bytes_eq-Decides b a).1 (sym ((bytes_eq-Decides a b).0 h)) in let clash : ◌≡◌ {A = Bool} true false = sym back ∙ e in cc)

neither : (a b : Bool) → (a || b) ≡ false → (a ≡ false) × (b ≡ false)
neither false b h = (refl, h)
neither true b h = absurd (cc)

-- ---- each row fits its table

-- each of these tables is the one that its name finds
abbrev Found : List BaseTable → List BaseTable → Type 0
Found all [] = Unit {0}
Found all (t ∷ ts) = (schema_of (map schema_in all) t.schema.name ≡ Some (schema_in t)) × Found all ts

found_more : (t : BaseTable) (all us : List BaseTable) → is_name_of (map table_name us) t.schema.name ≡ false → Found all us → Found (t ∷ all) us
found_more t all [] none found = tt
found_more t all (u ∷ us) none found =
    let apart = neither (bytes_eq u.schema.name t.schema.name) (is_name_of (map table_name us) t.schema.name) none in
    let other : bytes_eq t.schema.name u.schema.name ≡ false = other_bytes t.schema.name u.schema.name apart.0 in
    (rw other found.0, found_more t all us apart.1 found.1)

found_all : (tables : List BaseTable) → names_differ (map table_name tables) ≡ true → Found tables tables
found_all [] apart = tt
found_all (t ∷ ts) apart =
    let none : is_name_of (map table_name ts) t.schema.name ≡ false = not-true _ (first_true _ _ apart) in
    (rw (same_bytes t.schema.name) refl, found_more t ts ts none (found_all ts (second_true _ _ apart)))

rows_fit : (schemas : List Schema) (t : BaseTable) → schema_of schemas t.schema.name ≡ Some (schema_in t) → (rows : List (List Value)) → list_all (row_fits t.schema.columns) rows ≡ true → tables_fit schemas (map (plain_row t.schema.name) rows) ≡ true
rows_fit schemas t found [] fit = refl
rows_fit schemas t found (row ∷ rows) fit =
    let one : is_row_of (Some (schema_in t)) (key_of row) row ≡ true = both_true (row_fits t.schema.columns row) (same_value (key_of row) (key_of row)) (first_true _ _ fit) ((same_value_decides (key_of row) (key_of row)).1 refl) in
    both_true _ _ (ap (λ s. is_row_of s (key_of row) row) found ∙ one) (rows_fit schemas t found rows (second_true _ _ fit))

-- what is_table says of the rows
fitting_rows : (t : BaseTable) → is_table t ≡ true → list_all (row_fits t.schema.columns) t.rows ≡ true
unfolding is_table
fitting_rows t is = first_true (list_all (row_fits t.schema.columns) t.rows) (keys_differ t.rows) (second_true (is_declared t.schema) (list_all (row_fits t.schema.columns) t.rows && keys_differ t.rows) is)

distinct_rows : (t : BaseTable) → is_table t ≡ true → keys_differ t.rows ≡ true
unfolding is_table
distinct_rows t is = second_true (list_all (row_fits t.schema.columns) t.rows) (keys_differ t.rows) (second_true (is_declared t.schema) (list_all (row_fits t.schema.columns) t.rows && keys_differ t.rows) is)

all_fit : (schemas : List Schema) (all tables : List BaseTable) → schemas ≡ map schema_in all → Found all tables → list_all is_table tables ≡ true → tables_fit schemas (flat_map rows_of tables) ≡ true
all_fit schemas all [] same found each = refl
all_fit schemas all (t ∷ ts) same found each =
    list_all-append (λ one. is_row_of (schema_of schemas one.table) one.key one.row) (rows_of t) (flat_map rows_of ts)
    ∙ both_true _ _ (rows_fit schemas t (ap (λ s. schema_of s t.schema.name) same ∙ found.0) t.rows (fitting_rows t (first_true _ _ each))) (all_fit schemas all ts same found.1 (second_true _ _ each))

pub start_fits : (base : Base) → IsBase base → tables_fit (schemas_of base) (flat_map rows_of base.tables) ≡ true
start_fits base is = all_fit (schemas_of base) base.tables base.tables refl (found_all base.tables (table_names_differ base is)) (are_tables base is)

-- ---- no table and key stands twice

-- no row of another table stands at a place of this one
none_elsewhere : (name : List ℕ) (key : Value) (other : List ℕ) → bytes_eq other name ≡ false → (rows : List (List Value)) → rows_at (map (plain_row other) rows) (place.Row name key) ≡ []
none_elsewhere name key other differ [] = refl
none_elsewhere name key other differ (row ∷ rows) = rw differ (none_elsewhere name key other differ rows)

none_by : (x : PlainRow) (xs ys : List PlainRow) (t : Bool) → (if t then x ∷ xs else xs) ≡ [] → (xs ≡ [] → ys ≡ []) → (if t then x ∷ ys else ys) ≡ []
none_by x xs ys true h next = absurd (let clash : x ∷ xs ≡ [] = h in cc)
none_by x xs ys false h next = next h

rows_at-append : (at : Place) (xs ys : List PlainRow) → rows_at xs at ≡ [] → rows_at ys at ≡ [] → rows_at (xs ++ ys) at ≡ []
rows_at-append at [] ys hx hy = hy
rows_at-append at (x ∷ xs) ys hx hy = none_by x (rows_at xs at) (rows_at (xs ++ ys) at) (is_at at x) hx (λ rest. rows_at-append at xs ys rest hy)

none_in_others : (name : List ℕ) (key : Value) (tables : List BaseTable) → is_name_of (map table_name tables) name ≡ false → rows_at (flat_map rows_of tables) (place.Row name key) ≡ []
none_in_others name key [] none = refl
none_in_others name key (u ∷ us) none =
    let apart = neither (bytes_eq u.schema.name name) (is_name_of (map table_name us) name) none in
    rows_at-append (place.Row name key) (rows_of u) (flat_map rows_of us) (none_elsewhere name key u.schema.name apart.0 u.rows) (none_in_others name key us apart.1)

-- nor one of the same table with another key
none_of_keys : (name : List ℕ) (key : Value) (rows : List (List Value)) → list_any (λ row. same_value (key_of row) key) rows ≡ false → rows_at (map (plain_row name) rows) (place.Row name key) ≡ []
none_of_keys name key [] none = refl
none_of_keys name key (row ∷ rows) none =
    rw (same_bytes name, (neither (same_value (key_of row) key) _ none).0) (none_of_keys name key rows (neither (same_value (key_of row) key) _ none).1)

-- the rows of a table, and those of other tables behind them
apart_rows : (name : List ℕ) (rows : List (List Value)) (others : List BaseTable) → keys_differ rows ≡ true → is_name_of (map table_name others) name ≡ false → AreApart (flat_map rows_of others)
    → AreApart (map (plain_row name) rows ++ flat_map rows_of others)
apart_rows name [] others keys none apart = apart
apart_rows name (row ∷ rows) others keys none apart = (
  rows_at-append (place.Row name (key_of row)) (map (plain_row name) rows) (flat_map rows_of others) (none_of_keys name (key_of row) rows (not-true _ (first_true _ _ keys))) (none_in_others name (key_of row) others none),
  apart_rows name rows others (second_true _ _ keys) none apart,
)

all_apart : (tables : List BaseTable) → list_all is_table tables ≡ true → names_differ (map table_name tables) ≡ true → AreApart (flat_map rows_of tables)
all_apart [] each apart = tt
all_apart (t ∷ ts) each apart =
    apart_rows t.schema.name t.rows ts (distinct_rows t (first_true _ _ each)) (not-true _ (first_true _ _ apart)) (all_apart ts (second_true _ _ each) (second_true _ _ apart))

pub start_apart : (base : Base) → IsBase base → AreApart (flat_map rows_of base.tables)
start_apart base is = all_apart base.tables (are_tables base is) (table_names_differ base is)
