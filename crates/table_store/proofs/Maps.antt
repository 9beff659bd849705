-- Rows kept as maps by name and key: their order, and what stands at a place.
use Rattle.std.proofs.Common.{◌≡◌, ◌⊎◌, inl, inr, ℕ, Bool, true, false, cond, List, [], ◌∷◌, ◌++◌, refl, sym, ◌∙◌, ap, subst}
use Rattle.std.specs.Prelude.{Option, Some, None, filter}
use Rattle.std.specs.List.{AllByRecursion}
use Rattle.std.specs.List.Sorted.{IsStrictlySortedBy}
use Rattle.std.specs.declared.cmp.Ordering.{Ordering}
use Rattle.std.specs.declared.cmp.Ordering.TheVariants.{Less, Equal, Greater}
use Rattle.std.specs.Ordering.{nat_cmp, is_eq, ordering_reverse, match_ordering}
use Rattle.std.specs.Cmp.{IsTotalOrder}
use Rattle.std.specs.Cmp.Lexicographic.{slice_cmp}
use Rattle.std.specs.BTreeMap.{insert_entry, is_at as is_key}
use Rattle.std.specs.Map.{keys_of, lookup}
use Rattle.std.proofs.lemmas.Bool.{cases_Bool}
use Rattle.std.proofs.lemmas.Cmp.{nat_list_cmp_total, tied_itself}
use Rattle.std.proofs.lemmas.List.{append-nil}
use Rattle.std.proofs.lemmas.List.Elements.{filter-append}
use Rattle.std.proofs.lemmas.Map.Lookups.{exact_bytes}
use Rattle.svc_values.specs.declared.value.Value.{Value}
use Rattle.svc_values.specs.meaning.Order.{value_cmp}
use Rattle.svc_values.specs.SameLaws.{bytes_decide}
use Rattle.svc_values.proofs.Offered.{value_cmp_total, exact_values}
use Rattle.svc_values.specs.declared.tables.PlainRow.{PlainRow}
use Rattle.svc_values.specs.declared.tables.Place.{Place}
use Rattle.svc_values.specs.declared.tables.Place.TheVariants as place
use Rattle.svc_values.specs.meaning.Tables.{is_at, rows_at, comes_before}
use Rattle.svc_values.specs.Tables.{ComesFirst, AreTables}
use Rattle.table_store.specs.Rows.{Keyed, KeysRise, Shelves, IsShelved, plain_row, plain_rows, all_rows, rows_if_any, row_if_any, shelf_of, keyed_of, keyed_if_any, row_kept}
use Rattle.table_store.proofs.Places.{at_place, at_place_if}
use Rattle.table_store.proofs.Alike.{filter_pass, filter_skip}

-- ---- the order of all rows

before_in_table : (table : List ℕ) (a b : Value × List Value) → value_cmp a.0 b.0 ≡ Less → comes_before (plain_row table a) (plain_row table b) ≡ true
before_in_table table a b h =
    rw (tied_itself nat_list_cmp_total table, h) refl

before_by_name : (a b : PlainRow) → slice_cmp nat_cmp a.table b.table ≡ Less → comes_before a b ≡ true
before_by_name a b h = rw h refl

first_in_table : (table : List ℕ) (entry : Value × List Value) (entries : Keyed) → AllByRecursion (λ k. value_cmp entry.0 k ≡ Less) (keys_of entries) → ComesFirst (plain_row table entry) (plain_rows table entries)
first_in_table table entry [] below = tt
first_in_table table entry (next ∷ rest) below = (before_in_table table entry next below.0, first_in_table table entry rest below.1)

ordered_in_table : (table : List ℕ) (entries : Keyed) → KeysRise entries → AreTables (plain_rows table entries)
unfolding IsStrictlySortedBy
ordered_in_table table [] rise = tt
ordered_in_table table (entry ∷ rest) rise = (first_in_table table entry rest rise.0, ordered_in_table table rest rise.1)

first_of_both : (row : PlainRow) (xs ys : List PlainRow) → ComesFirst row xs → ComesFirst row ys → ComesFirst row (xs ++ ys)
first_of_both row [] ys before behind = behind
first_of_both row (x ∷ xs) ys before behind = (before.0, first_of_both row xs ys before.1 behind)

first_of_tables : (row : PlainRow) (tables : Shelves) → AllByRecursion (λ name. slice_cmp nat_cmp row.table name ≡ Less) (keys_of tables) → ComesFirst row (all_rows tables)
first_of_tables row [] below = tt
first_of_tables row (one ∷ tables) below = first_of_both row (plain_rows one.0 one.1) (all_rows tables) (before_all one.1) (first_of_tables row tables below.1)
  where
    before_all : (entries : Keyed) → ComesFirst row (plain_rows one.0 entries)
    before_all [] = tt
    before_all (entry ∷ rest) = (before_by_name row (plain_row one.0 entry) below.0, before_all rest)

ordered_both : (table : List ℕ) (entries : Keyed) (ys : List PlainRow) → AreTables (plain_rows table entries) → AreTables ys → ((entry : Value × List Value) → ComesFirst (plain_row table entry) ys) → AreTables (plain_rows table entries ++ ys)
ordered_both table [] ys before behind first = behind
ordered_both table (entry ∷ rest) ys before behind first =
    (first_of_both (plain_row table entry) (plain_rows table rest) ys before.0 (first entry), ordered_both table rest ys before.1 behind first)

pub ordered_all : (tables : Shelves) → IsShelved tables → AreTables (all_rows tables)
unfolding IsStrictlySortedBy
ordered_all [] shelved = tt
ordered_all (one ∷ tables) shelved =
    ordered_both one.0 one.1 (all_rows tables) (ordered_in_table one.0 one.1 shelved.1.0) (ordered_all tables (shelved.0.1, shelved.1.1))
    (λ entry. first_of_tables (plain_row one.0 entry) tables shelved.0.0)

-- ---- what stands at a place

filter_none : (p : PlainRow → Bool) (table : List ℕ) (entries : Keyed) → ((entry : Value × List Value) → p (plain_row table entry) ≡ false) → filter p (plain_rows table entries) ≡ []
filter_none p table [] never = refl
filter_none p table (entry ∷ rest) never = filter_skip p (plain_row table entry) (plain_rows table rest) (never entry) ∙ filter_none p table rest never

filter_every : (p : PlainRow → Bool) (table : List ℕ) (entries : Keyed) → ((entry : Value × List Value) → p (plain_row table entry) ≡ true) → filter p (plain_rows table entries) ≡ plain_rows table entries
filter_every p table [] ever = refl
filter_every p table (entry ∷ rest) ever = filter_pass p (plain_row table entry) (plain_rows table rest) (ever entry) ∙ ap (λ l. plain_row table entry ∷ l) (filter_every p table rest ever)

-- none is found where the name is another
filter_others : (p : PlainRow → Bool) (tables : Shelves) → AllByRecursion (λ name. (entry : Value × List Value) → p (plain_row name entry) ≡ false) (keys_of tables) → filter p (all_rows tables) ≡ []
filter_others p [] never = refl
filter_others p (one ∷ tables) never =
    filter-append p (plain_rows one.0 one.1) (all_rows tables)
    ∙ ap (λ l. l ++ filter p (all_rows tables)) (filter_none p one.0 one.1 never.0)
    ∙ filter_others p tables never.1

pub equal_if_same : (a b : List ℕ) → a ≡ b → is_eq (slice_cmp nat_cmp a b) ≡ true
equal_if_same a b h = ap is_eq (subst (λ (c : List ℕ). slice_cmp nat_cmp a c ≡ Equal) h (tied_itself nat_list_cmp_total a))

equal_from_is_eq : (o : Ordering) → is_eq o ≡ true → o ≡ Equal
equal_from_is_eq Less h = cc
equal_from_is_eq Equal h = refl
equal_from_is_eq Greater h = cc

pub same_if_equal : (a b : List ℕ) → is_eq (slice_cmp nat_cmp a b) ≡ true → a ≡ b
same_if_equal a b h = exact_bytes a b (equal_from_is_eq (slice_cmp nat_cmp a b) h)

differ_if_less : (a b : List ℕ) → slice_cmp nat_cmp a b ≡ Less → a ≡ b → ⊥
differ_if_less a b h same =
    let tied : slice_cmp nat_cmp a b ≡ Equal = subst (λ (c : List ℕ). slice_cmp nat_cmp a c ≡ Equal) same (tied_itself nat_list_cmp_total a) in
    let never : Less ≡ Equal = sym h ∙ tied in cc

-- what a test sees that rows of one table alone may meet
module _ (p : PlainRow → Bool) (table : List ℕ) (of_table : (row : PlainRow) → p row ≡ true → row.table ≡ table) where
  never_of : (name : List ℕ) → (name ≡ table → ⊥) → (entry : Value × List Value) → p (plain_row name entry) ≡ false
  never_of name apart entry =
      elim (cases_Bool (p (plain_row name entry))) [
        | inl here ↦ absurd (apart (of_table (plain_row name entry) here))
        | inr away ↦ away
      ]

  never_behind : (names : List (List ℕ)) → AllByRecursion (λ name. slice_cmp nat_cmp table name ≡ Less) names → AllByRecursion (λ name. (entry : Value × List Value) → p (plain_row name entry) ≡ false) names
  never_behind [] below = tt
  never_behind (name ∷ names) below = (never_of name (λ same. differ_if_less table name below.0 (sym same)), never_behind names below.1)

  pub filter_tables : (tables : Shelves) → IsStrictlySortedBy (slice_cmp nat_cmp) (keys_of tables) → filter p (all_rows tables) ≡ filter p (rows_if_any table (shelf_of tables table))
  unfolding IsStrictlySortedBy
  filter_tables [] rise = refl
  filter_tables (one ∷ tables) rise =
      elim (cases_Bool (is_eq (slice_cmp nat_cmp table one.0))) [
        | inl here ↦
            let same : table ≡ one.0 = same_if_equal table one.0 here in
            filter-append p (plain_rows one.0 one.1) (all_rows tables)
            ∙ ap (λ l. filter p (plain_rows one.0 one.1) ++ l) (filter_others p tables (never_behind (keys_of tables) (subst (λ (n : List ℕ). AllByRecursion (λ name. slice_cmp nat_cmp n name ≡ Less) (keys_of tables)) (sym same) rise.0)))
            ∙ append-nil (filter p (plain_rows one.0 one.1))
            ∙ ap (λ n. filter p (plain_rows n one.1)) (sym same)
            ∙ sym (ap (λ b. filter p (rows_if_any table (cond b (Some one.1) (shelf_of tables table)))) here)
        | inr apart ↦
            filter-append p (plain_rows one.0 one.1) (all_rows tables)
            ∙ ap (λ l. l ++ filter p (all_rows tables)) (filter_none p one.0 one.1 (never_of one.0 (λ same. let never : true ≡ false = sym (equal_if_same table one.0 (sym same)) ∙ apart in cc)))
            ∙ filter_tables tables rise.1
            ∙ sym (ap (λ b. filter p (rows_if_any table (cond b (Some one.1) (shelf_of tables table)))) apart)
      ]

-- what stands in a table
pub rows_of_table : (tables : Shelves) (table : List ℕ) → IsStrictlySortedBy (slice_cmp nat_cmp) (keys_of tables) → rows_at (all_rows tables) (place.Table table) ≡ rows_if_any table (shelf_of tables table)
rows_of_table tables table rise =
    filter_tables (is_at (place.Table table)) table (λ row here. (bytes_decide row.table table).0 here) tables rise ∙ every (shelf_of tables table)
  where
    every : (shelf : Option Keyed) → rows_at (rows_if_any table shelf) (place.Table table) ≡ rows_if_any table shelf
    every None = refl
    every (Some entries) = filter_every (is_at (place.Table table)) table entries (λ entry. (bytes_decide table table).1 refl)

pub keys_equal : (a b : Value) → is_eq (value_cmp a b) ≡ true → a ≡ b
keys_equal a b h = exact_values a b (equal_from_is_eq (value_cmp a b) h)

pub keys_equal_if : (a b : Value) → a ≡ b → is_eq (value_cmp a b) ≡ true
keys_equal_if a b h = ap is_eq (subst (λ (c : Value). value_cmp a c ≡ Equal) h (tied_itself value_cmp_total a))

none_above : (table : List ℕ) (key : Value) (entries : Keyed) → AllByRecursion (λ k. value_cmp key k ≡ Less) (keys_of entries) → rows_at (plain_rows table entries) (place.Row table key) ≡ []
none_above table key [] below = refl
none_above table key (entry ∷ rest) below = filter_skip (is_at (place.Row table key)) (plain_row table entry) (plain_rows table rest) (away (cases_Bool (is_at (place.Row table key) (plain_row table entry)))) ∙ none_above table key rest below.1
  where
    away : (is_at (place.Row table key) (plain_row table entry) ≡ true) ⊎ (is_at (place.Row table key) (plain_row table entry) ≡ false) → is_at (place.Row table key) (plain_row table entry) ≡ false
    away (inl here) =
        let same : entry.0 ≡ key = (at_place table key (plain_row table entry) here).1 in
        let tied : value_cmp key entry.0 ≡ Equal = subst (λ (c : Value). value_cmp key c ≡ Equal) (sym same) (tied_itself value_cmp_total key) in
        let never : Less ≡ Equal = sym below.0 ∙ tied in cc
    away (inr apart) = apart

row_in_table : (table : List ℕ) (key : Value) (entries : Keyed) → KeysRise entries → rows_at (plain_rows table entries) (place.Row table key) ≡ row_if_any table key (keyed_of entries key)
unfolding IsStrictlySortedBy
row_in_table table key [] rise = refl
row_in_table table key (entry ∷ rest) rise =
    let at : Place = place.Row table key in
    elim (cases_Bool (is_eq (value_cmp key entry.0))) [
      | inl here ↦
          let same : key ≡ entry.0 = keys_equal key entry.0 here in
          filter_pass (is_at at) (plain_row table entry) (plain_rows table rest) (at_place_if table key (plain_row table entry) refl (sym same))
          ∙ ap (λ l. plain_row table entry ∷ l) (none_above table key rest (subst (λ (n : Value). AllByRecursion (λ k. value_cmp n k ≡ Less) (keys_of rest)) (sym same) rise.0))
          ∙ ap (λ k. plain_row table (k, entry.1) ∷ []) (sym same)
          ∙ sym (ap (λ b. row_if_any table key (cond b (Some entry.1) (keyed_of rest key))) here)
      | inr apart ↦
          filter_skip (is_at at) (plain_row table entry) (plain_rows table rest) (away entry apart (cases_Bool (is_at at (plain_row table entry))))
          ∙ row_in_table table key rest rise.1
          ∙ sym (ap (λ b. row_if_any table key (cond b (Some entry.1) (keyed_of rest key))) apart)
    ]
  where
    away : (one : Value × List Value) → is_eq (value_cmp key one.0) ≡ false → (is_at (place.Row table key) (plain_row table one) ≡ true) ⊎ (is_at (place.Row table key) (plain_row table one) ≡ false) → is_at (place.Row table key) (plain_row table one) ≡ false
    away one apart (inl here) =
        let never : true ≡ false = sym (keys_equal_if key one.0 (sym (at_place table key (plain_row table one) here).1)) ∙ apart in cc
    away one apart (inr other) = other

lookup_all : {X : Type 0} (P : X → Type 0) (test : List ℕ → Bool) (tables : List (List ℕ × X)) → AllByRecursion (λ one. P one.1) tables → (x : X) → lookup test tables ≡ Some x → P x
lookup_all {X} P test [] all x h = cc
lookup_all {X} P test (one ∷ tables) all x h =
    elim (cases_Bool (test one.0)) [
      | inl here ↦
          let found : Some one.1 ≡ Some x = sym (ap (λ b. cond b (Some one.1) (lookup test tables)) here) ∙ h in
          subst P (some_inj one.1 x found) all.0
      | inr apart ↦ lookup_all P test tables all.1 x (sym (ap (λ b. cond b (Some one.1) (lookup test tables)) apart) ∙ h)
    ]
  where
    some_inj : (a b : X) → ◌≡◌ {A = Option X} (Some a) (Some b) → a ≡ b
    some_inj a b e = cc

-- what stands at the place of a row
pub row_of_key : (tables : Shelves) (table : List ℕ) (key : Value) → IsShelved tables → rows_at (all_rows tables) (place.Row table key) ≡ row_if_any table key (row_kept tables table key)
row_of_key tables table key shelved =
    filter_tables (is_at (place.Row table key)) table (λ row here. (at_place table key row here).0) tables shelved.0 ∙ in_shelf (shelf_of tables table) refl
  where
    in_shelf : (shelf : Option Keyed) → shelf_of tables table ≡ shelf → rows_at (rows_if_any table shelf) (place.Row table key) ≡ row_if_any table key (keyed_if_any shelf key)
    in_shelf None h = refl
    in_shelf (Some entries) h = row_in_table table key entries (lookup_all KeysRise (is_key (slice_cmp nat_cmp table)) tables shelved.1 entries h)

-- ---- a map that is filled in order

-- an entry whose key is above every key goes last
pub insert_last : {K X : Type 0} {cmp : K → K → Ordering} → IsTotalOrder cmp → (done : List (K × X)) (key : K) (x : X) (rest : List (K × X)) → IsStrictlySortedBy cmp (keys_of (done ++ (key, x) ∷ rest)) → insert_entry cmp done key x ≡ done ++ (key, x) ∷ []
unfolding IsStrictlySortedBy
insert_last total [] key x rest rise = refl
insert_last {K} {X} {cmp} total (e ∷ es) key x rest rise =
    ap (λ o. match_ordering o ((key, x) ∷ e ∷ es) ((e.0, x) ∷ es) (e ∷ insert_entry cmp es key x)) (total.antisymm key e.0 ∙ ap ordering_reverse (reached es rise.0))
    ∙ ap (λ l. e ∷ l) (insert_last total es key x rest rise.1)
  where
    reached : (fs : List (K × X)) → AllByRecursion (λ k. cmp e.0 k ≡ Less) (keys_of (fs ++ (key, x) ∷ rest)) → cmp e.0 key ≡ Less
    reached [] all = all.0
    reached (f ∷ fs) all = reached fs all.1
