-- One change of the maps is a write to the tables.
use Rattle.std.proofs.Common.{◌≡◌, ◌⊎◌, inl, inr, ℕ, Bool, true, false, cond, List, [], ◌∷◌, refl, sym, ◌∙◌, ap, subst}
use Rattle.std.specs.Prelude.{Option, Some, None, IsSome, filter, not, ◌&&◌}
use Rattle.std.specs.List.{AllByRecursion, list_all}
use Rattle.std.specs.declared.cmp.Ordering.TheVariants.{Less, Equal, Greater}
use Rattle.std.specs.Ordering.{nat_cmp, eq_by_cmp, is_eq, match_ordering}
use Rattle.std.specs.Cmp.Lexicographic.{slice_cmp}
use Rattle.std.specs.BTreeMap.{BTreeMap, WritesThrough, Updates, insert_entry, is_at as is_key}
use Rattle.std.specs.Map.{lookup, set_value, update_all}
use Rattle.std.proofs.lemmas.Bool.{cases_Bool}
use Rattle.svc_values.specs.declared.value.Value.{Value}
use Rattle.svc_values.specs.declared.entry.Write.{Write}
use Rattle.svc_values.specs.meaning.Order.{value_cmp}
use Rattle.svc_values.specs.declared.tables.PlainRow.{PlainRow}
use Rattle.svc_values.specs.declared.tables.Place.TheVariants as place
use Rattle.svc_values.specs.meaning.Tables.{is_at, rows_at, put_row, without, with_write, comes_before}
use Rattle.table_store.specs.Rows.{Keyed, KeysRise, Shelves, IsShelved, all_rows, shelf_of, keyed_of, keyed_if_any, row_kept, row_if_any}
use Rattle.table_store.specs.Shelves.{is_place, Changes, ChangesAll}
use Rattle.table_store.proofs.Places.{at_place}
use Rattle.table_store.proofs.Alike.{same_tables}
use Rattle.table_store.proofs.Writes.{ordered_with_write, own_place, filter_with_write}
use Rattle.table_store.proofs.Maps.{ordered_all, row_of_key, same_if_equal, equal_if_same, keys_equal, keys_equal_if}

pub both_true : (a b : Bool) → (a && b) ≡ true → (a ≡ true) × (b ≡ true)
both_true true true h = (refl, refl)
both_true true false h = cc
both_true false b h = cc

both_if : (a b : Bool) → a ≡ true → b ≡ true → (a && b) ≡ true
both_if true true h k = refl
both_if true false h k = k
both_if false b h k = h

-- so are the plain rows
pub rows_changed : (old new : Shelves) (table : List ℕ) (key : Value) (row : Option (List Value)) → IsShelved old → IsShelved new → Changes old table key row new → all_rows new ≡ with_write (all_rows old) (record { table = table; key = key; row = row })
rows_changed old new table key row shelved shelved_new changes =
    same_tables (all_rows new) (with_write (all_rows old) write) (ordered_all new shelved_new) (ordered_with_write (all_rows old) write (ordered_all old shelved)) (λ t k. by_place t k (cases_Bool (is_place table key t k)))
  where
    write : Write
    write = record { table = table; key = key; row = row }

    at_new : (t : List ℕ) (k : Value) → rows_at (all_rows new) (place.Row t k) ≡ row_if_any t k (cond (is_place table key t k) row (row_kept old t k))
    at_new t k = row_of_key new t k shelved_new ∙ ap (row_if_any t k) (changes t k)

    by_place : (t : List ℕ) (k : Value) → (is_place table key t k ≡ true) ⊎ (is_place table key t k ≡ false) → rows_at (all_rows new) (place.Row t k) ≡ rows_at (with_write (all_rows old) write) (place.Row t k)
    by_place t k (inl here) =
        let parts = both_true (is_eq (slice_cmp nat_cmp table t)) (is_eq (value_cmp key k)) here in
        let tables : table ≡ t = same_if_equal table t parts.0 in
        let keys : key ≡ k = keys_equal key k parts.1 in
        at_new t k ∙ ap (λ b. row_if_any t k (cond b row (row_kept old t k))) here
        ∙ subst (λ (u : List ℕ). row_if_any u k row ≡ rows_at (with_write (all_rows old) write) (place.Row u k)) tables
        (subst (λ (v : Value). row_if_any table v row ≡ rows_at (with_write (all_rows old) write) (place.Row table v)) keys (sym (own_place (all_rows old) table key row)))
    by_place t k (inr apart) =
        at_new t k ∙ ap (λ b. row_if_any t k (cond b row (row_kept old t k))) apart ∙ sym (row_of_key old t k shelved)
        ∙ sym (filter_with_write (is_at (place.Row t k)) (all_rows old) table key row (λ r here. other r here (cases_Bool (is_at (place.Row t k) r))))
      where
        other : (r : PlainRow) → is_at (place.Row table key) r ≡ true → (is_at (place.Row t k) r ≡ true) ⊎ (is_at (place.Row t k) r ≡ false) → is_at (place.Row t k) r ≡ false
        other r here (inl there) =
            let one = at_place table key r here in
            let two = at_place t k r there in
            let never : true ≡ false = sym (both_if (is_eq (slice_cmp nat_cmp table t)) (is_eq (value_cmp key k)) (equal_if_same table t (sym one.0 ∙ two.0)) (keys_equal_if key k (sym one.1 ∙ two.1))) ∙ apart in cc
        other r here (inr away) = away

-- a change of one map of the maps
pub changed_in : (old new : Shelves) (table : List ℕ) (key : Value) (row : Option (List Value)) (kept : Keyed)
    → ((t : List ℕ) → shelf_of new t ≡ cond (is_eq (slice_cmp nat_cmp table t)) (Some kept) (shelf_of old t))
    → ((k : Value) → keyed_of kept k ≡ cond (is_eq (value_cmp key k)) row (row_kept old table k))
    → Changes old table key row new
changed_in old new table key row kept shelf keyed t k = by_name (cases_Bool (is_eq (slice_cmp nat_cmp table t)))
  where
    by_name : (is_eq (slice_cmp nat_cmp table t) ≡ true) ⊎ (is_eq (slice_cmp nat_cmp table t) ≡ false) → row_kept new t k ≡ cond (is_place table key t k) row (row_kept old t k)
    by_name (inl here) =
        ap (λ s. keyed_if_any s k) (shelf t ∙ ap (λ b. cond b (Some kept) (shelf_of old t)) here) ∙ keyed k
        ∙ ap (λ (u : List ℕ). cond (is_eq (value_cmp key k)) row (row_kept old u k)) (same_if_equal table t here)
        ∙ sym (ap (λ b. cond (b && is_eq (value_cmp key k)) row (row_kept old t k)) here)
    by_name (inr apart) =
        ap (λ s. keyed_if_any s k) (shelf t ∙ ap (λ b. cond b (Some kept) (shelf_of old t)) apart)
        ∙ sym (ap (λ b. cond (b && is_eq (value_cmp key k)) row (row_kept old t k)) apart)

-- the same of rows that are put in one after the other
pub changed_all_in : (old new : Shelves) (table : List ℕ) (entries kept : Keyed)
    → ((t : List ℕ) → shelf_of new t ≡ cond (is_eq (slice_cmp nat_cmp table t)) (Some kept) (shelf_of old t))
    → ((k : Value) → keyed_of kept k ≡ update_all (eq_by_cmp value_cmp) (row_kept old table) entries k)
    → ChangesAll old table entries new
changed_all_in old new table entries kept shelf keyed t k = by_name (cases_Bool (is_eq (slice_cmp nat_cmp table t)))
  where
    put_over : List ℕ → Option (List Value)
    put_over u = update_all (eq_by_cmp value_cmp) (row_kept old u) entries k

    by_name : (is_eq (slice_cmp nat_cmp table t) ≡ true) ⊎ (is_eq (slice_cmp nat_cmp table t) ≡ false) → row_kept new t k ≡ cond (is_eq (slice_cmp nat_cmp table t)) (put_over t) (row_kept old t k)
    by_name (inl here) =
        ap (λ s. keyed_if_any s k) (shelf t ∙ ap (λ b. cond b (Some kept) (shelf_of old t)) here) ∙ keyed k
        ∙ ap put_over (same_if_equal table t here)
        ∙ sym (ap (λ b. cond b (put_over t) (row_kept old t k)) here)
    by_name (inr apart) =
        ap (λ s. keyed_if_any s k) (shelf t ∙ ap (λ b. cond b (Some kept) (shelf_of old t)) apart)
        ∙ sym (ap (λ b. cond b (put_over t) (row_kept old t k)) apart)

-- what holds of each map, with another one in the place of one
pub all_with_value : (P : Keyed → Type 0) (test : List ℕ → Bool) (tables : Shelves) (kept : Keyed) → AllByRecursion (λ one. P one.1) tables → P kept → AllByRecursion (λ one. P one.1) (set_value test tables kept)
all_with_value P test [] kept all here = tt
all_with_value P test (one ∷ tables) kept all here =
    elim (test one.0) as (λ b. AllByRecursion (λ (e : List ℕ × Keyed). P e.1) (cond b ((one.0, kept) ∷ tables) (one ∷ set_value test tables kept))) [
      | true ↦ (here, all.1)
      | false ↦ (all.0, all_with_value P test tables kept all.1 here)
    ]

-- with one more
pub all_with_entry : (P : Keyed → Type 0) (tables : Shelves) (table : List ℕ) (kept : Keyed) → AllByRecursion (λ one. P one.1) tables → P kept → AllByRecursion (λ one. P one.1) (insert_entry (slice_cmp nat_cmp) tables table kept)
all_with_entry P [] table kept all here = (here, tt)
all_with_entry P (one ∷ tables) table kept all here =
    elim (slice_cmp nat_cmp table one.0) as (λ o. AllByRecursion (λ (e : List ℕ × Keyed). P e.1) (match_ordering o ((table, kept) ∷ one ∷ tables) ((one.0, kept) ∷ tables) (one ∷ insert_entry (slice_cmp nat_cmp) tables table kept))) [
      | Less ↦ (here, all)
      | Equal ↦ (here, all.1)
      | Greater ↦ (all.0, all_with_entry P tables table kept all.1 here)
    ]

-- a value written over itself
pub set_value_same : (test : List ℕ → Bool) (tables : Shelves) (kept : Keyed) → lookup test tables ≡ Some kept → set_value test tables kept ≡ tables
set_value_same test [] kept h = refl
set_value_same test (one ∷ tables) kept h =
    elim (cases_Bool (test one.0)) [
      | inl here ↦
          let found : Some one.1 ≡ Some kept = sym (ap (λ b. cond b (Some one.1) (lookup test tables)) here) ∙ h in
          let same : kept ≡ one.1 = cc in
          ap (λ b. cond b ((one.0, kept) ∷ tables) (one ∷ set_value test tables kept)) here ∙ ap (λ k. (one.0, k) ∷ tables) same
      | inr apart ↦
          ap (λ b. cond b ((one.0, kept) ∷ tables) (one ∷ set_value test tables kept)) apart
          ∙ ap (λ l. one ∷ l) (set_value_same test tables kept (sym (ap (λ b. cond b (Some one.1) (lookup test tables)) apart) ∙ h))
    ]

-- ---- rows that fit

all_filtered : (p q : PlainRow → Bool) (tables : List PlainRow) → list_all p tables ≡ true → list_all p (filter q tables) ≡ true
all_filtered p q [] all = refl
all_filtered p q (row ∷ rest) all =
    let parts = both_true (p row) (list_all p rest) all in
    elim (q row) as (λ b. list_all p (cond b (row ∷ filter q rest) (filter q rest)) ≡ true) [
      | true ↦ both_if (p row) (list_all p (filter q rest)) parts.0 (all_filtered p q rest parts.1)
      | false ↦ all_filtered p q rest parts.1
    ]

pub all_put : (p : PlainRow → Bool) (row : PlainRow) (tables : List PlainRow) → p row ≡ true → list_all p tables ≡ true → list_all p (put_row row tables) ≡ true
all_put p row [] here all = both_if (p row) true here refl
all_put p row (first ∷ rest) here all =
    let parts = both_true (p first) (list_all p rest) all in
    elim (comes_before row first) as (λ b. list_all p (cond b (row ∷ first ∷ rest) (first ∷ put_row row rest)) ≡ true) [
      | true ↦ both_if (p row) (list_all p (first ∷ rest)) here all
      | false ↦ both_if (p first) (list_all p (put_row row rest)) parts.0 (all_put p row rest here parts.1)
    ]

-- what holds of a row that is written
abbrev pub FitsIfAny : (PlainRow → Bool) → List ℕ → Value → Option (List Value) → Type 0
FitsIfAny p table key None = Unit {0}
FitsIfAny p table key (Some row) = p (record { table = table; key = key; row = row }) ≡ true

pub all_with_write : (p : PlainRow → Bool) (tables : List PlainRow) (table : List ℕ) (key : Value) (row : Option (List Value)) → list_all p tables ≡ true → FitsIfAny p table key row → list_all p (with_write tables (record { table = table; key = key; row = row })) ≡ true
all_with_write p tables table key None all here = all_filtered p (λ r. not (is_at (place.Row table key) r)) tables all
all_with_write p tables table key (Some row) all here =
    all_put p (record { table = table; key = key; row = row }) (without tables table key) here (all_filtered p (λ r. not (is_at (place.Row table key) r)) tables all)

-- ---- changes through what `get_mut` lends

-- a map that was changed where it stands
pub changed_there : (old new : BTreeMap (List ℕ) Keyed) (table : List ℕ) (key : Value) (row : Option (List Value)) (kept after : Keyed)
    → Some kept ≡ shelf_of old.entries table
    → WritesThrough (slice_cmp nat_cmp) (slice_cmp nat_cmp table) old after new
    → ((k : Value) → keyed_of after k ≡ cond (is_eq (value_cmp key k)) row (keyed_of kept k))
    → Changes old.entries table key row new.entries
changed_there old new table key row kept after found written keyed =
    changed_in old.entries new.entries table key row after
    ((written.3 (subst IsSome found refl)).0)
    (λ k. keyed k ∙ ap (λ s. cond (is_eq (value_cmp key k)) row (keyed_if_any s k)) found)

pub changed_all_there : (old new : BTreeMap (List ℕ) Keyed) (table : List ℕ) (entries kept after : Keyed)
    → Some kept ≡ shelf_of old.entries table
    → WritesThrough (slice_cmp nat_cmp) (slice_cmp nat_cmp table) old after new
    → ((k : Value) → keyed_of after k ≡ update_all (eq_by_cmp value_cmp) (keyed_of kept) entries k)
    → ChangesAll old.entries table entries new.entries
changed_all_there old new table entries kept after found written keyed =
    changed_all_in old.entries new.entries table entries after
    ((written.3 (subst IsSome found refl)).0)
    (λ k. keyed k ∙ ap (λ s. update_all (eq_by_cmp value_cmp) (λ q. keyed_if_any s q) entries k) found)

pub unchanged_there : (old new : BTreeMap (List ℕ) Keyed) (table : List ℕ) (kept after : Keyed)
    → Some kept ≡ shelf_of old.entries table
    → WritesThrough (slice_cmp nat_cmp) (slice_cmp nat_cmp table) old after new
    → after ≡ kept → new.entries ≡ old.entries
unchanged_there old new table kept after found written same =
    written.0 ∙ set_value_same (is_key (slice_cmp nat_cmp table)) old.entries after (sym found ∙ ap (λ k. Some k) (sym same))

pub shelved_there : (old new : BTreeMap (List ℕ) Keyed) (table : List ℕ) (after : Keyed)
    → IsShelved old.entries → WritesThrough (slice_cmp nat_cmp) (slice_cmp nat_cmp table) old after new → KeysRise after → IsShelved new.entries
shelved_there old new table after shelved written rise =
    (written.4, subst (λ (s : Shelves). AllByRecursion (λ one. KeysRise one.1) s) (sym written.0) (all_with_value KeysRise (is_key (slice_cmp nat_cmp table)) old.entries after shelved.1 rise))

-- a first row of a table
pub changed_anew : (old new : BTreeMap (List ℕ) Keyed) (table : List ℕ) (key : Value) (row : Option (List Value)) (after : Keyed)
    → None ≡ shelf_of old.entries table
    → Updates (slice_cmp nat_cmp) old new table (Some after)
    → ((k : Value) → keyed_of after k ≡ cond (is_eq (value_cmp key k)) row None)
    → Changes old.entries table key row new.entries
changed_anew old new table key row after none written keyed =
    changed_in old.entries new.entries table key row after
    (written.0)
    (λ k. keyed k ∙ ap (λ s. cond (is_eq (value_cmp key k)) row (keyed_if_any s k)) none)

-- the first rows of a table
pub changed_all_anew : (old new : BTreeMap (List ℕ) Keyed) (table : List ℕ) (entries after : Keyed)
    → None ≡ shelf_of old.entries table
    → Updates (slice_cmp nat_cmp) old new table (Some after)
    → ((k : Value) → keyed_of after k ≡ update_all (eq_by_cmp value_cmp) (λ _. None) entries k)
    → ChangesAll old.entries table entries new.entries
changed_all_anew old new table entries after none written keyed =
    changed_all_in old.entries new.entries table entries after
    (written.0)
    (λ k. keyed k ∙ ap (λ s. update_all (eq_by_cmp value_cmp) (λ q. keyed_if_any s q) entries k) none)

-- no row of a table without rows
pub nothing_there : (old : Shelves) (table : List ℕ) (key : Value) → None ≡ shelf_of old table → Changes old table key None old
nothing_there old table key none t k = by_place (cases_Bool (is_place table key t k))
  where
    by_place : (is_place table key t k ≡ true) ⊎ (is_place table key t k ≡ false) → row_kept old t k ≡ cond (is_place table key t k) None (row_kept old t k)
    by_place (inl here) =
        let same : table ≡ t = same_if_equal table t (both_true (is_eq (slice_cmp nat_cmp table t)) (is_eq (value_cmp key k)) here).0 in
        ap (λ s. keyed_if_any s k) (ap (shelf_of old) (sym same) ∙ sym none) ∙ sym (ap (λ b. cond b None (row_kept old t k)) here)
    by_place (inr apart) = sym (ap (λ b. cond b None (row_kept old t k)) apart)

-- ---- maps that change no row

rows_stay : (old new : Shelves) → IsShelved old → IsShelved new → ((t : List ℕ) (k : Value) → row_kept new t k ≡ row_kept old t k) → all_rows new ≡ all_rows old
rows_stay old new shelved shelved_new same =
    same_tables (all_rows new) (all_rows old) (ordered_all new shelved_new) (ordered_all old shelved)
    (λ t k. row_of_key new t k shelved_new ∙ ap (row_if_any t k) (same t k) ∙ sym (row_of_key old t k shelved))

-- a table without rows, beside the others
pub empty_table : (old new : BTreeMap (List ℕ) Keyed) (table : List ℕ) (after : Keyed) → IsShelved old.entries → IsShelved new.entries → after ≡ []
    → None ≡ shelf_of old.entries table → Updates (slice_cmp nat_cmp) old new table (Some after) → all_rows new.entries ≡ all_rows old.entries
empty_table old new table after shelved shelved_new empty none written =
    rows_stay old.entries new.entries shelved shelved_new
    (λ t k. changed_anew old new table k None after none written (λ q. ap (λ (es : Keyed). keyed_of es q) empty ∙ same_none (is_eq (value_cmp k q))) t k
    ∙ sym (nothing_there old.entries table k none t k))
  where
    same_none : (b : Bool) → ◌≡◌ {A = Option (List Value)} None (cond b None None)
    same_none true = refl
    same_none false = refl
