-- An index stays the index of its rows.
use Rattle.std.proofs.Common.{arith, ◌≡◌, ◌⊎◌, inl, inr, ℕ, suc, zero, ◌+◌, ◌<◌, ◌≤◌, get_or, Bool, true, false, cond, List, [], ◌∷◌, length, map, slice_set, refl, sym, ◌∙◌, ap, subst}
use Rattle.std.specs.Prelude.{Option, Some, None, slice_get, ◌&&◌, ◌||◌}
use Rattle.std.specs.List.{AllByRecursion}
use Rattle.std.specs.List.Sorted.{IsStrictlySortedBy}
use Rattle.std.specs.declared.cmp.Ordering.TheVariants.{Less}
use Rattle.std.specs.Ordering.{is_eq}
use Rattle.std.specs.Map.{keys_of}
use Rattle.std.proofs.lemmas.Bool.{cases_Bool}
use Rattle.svc_values.specs.declared.value.Value.{Value}
use Rattle.svc_values.specs.meaning.Order.{value_cmp}
use Rattle.svc_values.specs.meaning.Schemas.{key_of}
use Rattle.table_store.specs.declared.column_index.ColumnIndex.{ColumnIndex}
use Rattle.table_store.specs.declared.column_index.Pair.{Pair}
use Rattle.table_store.specs.Given.{keyed}
use Rattle.table_store.specs.Indexes.{has_pair, has_value, is_value, value_in, IsIndexOf, AreIndexesOf, with_row}
use Rattle.table_store.specs.Rows.{Keyed, KeysRise, keyed_of}
use Rattle.table_store.proofs.Maps.{keys_equal, keys_equal_if}

-- ---- one key of one index

-- the pairs at the key are those of its value
abbrev pub HoldsAt : List Pair → Value → Option Value → Type 0
HoldsAt pairs key was = (v : Value) → has_pair pairs v key ≡ is_value was v

-- the key has moved to another value
abbrev pub MovesTo : List Pair → Value → Option Value → List Pair → Type 0
MovesTo old key is new = (v k : Value) → has_pair new v k ≡ cond (is_eq (value_cmp key k)) (is_value is v) (has_pair old v k)

pub unmoved : (pairs : List Pair) (key : Value) (was is : Option Value) → HoldsAt pairs key was → was ≡ is → MovesTo pairs key is pairs
unmoved pairs key was is holds same v k =
    elim (cases_Bool (is_eq (value_cmp key k))) [
      | inl here ↦ rw here (ap (λ q. has_pair pairs v q) (sym (keys_equal key k here)) ∙ holds v ∙ ap (λ w. is_value w v) same)
      | inr away ↦ rw away refl
    ]

nowhere : (t : Bool) (b c : Bool) → cond (t && false) b c ≡ c
nowhere true b c = refl
nowhere false b c = refl

put_over : (a b c : Bool) → c ≡ b → cond (a && true) true (cond (b && true) false c) ≡ a
put_over true b c h = refl
put_over false true c h = refl
put_over false false c h = h

pub moved : (old between new : List Pair) (key : Value) (was is : Option Value) → HoldsAt old key was
    → ((v k : Value) → has_pair between v k ≡ cond (is_value was v && is_eq (value_cmp key k)) false (has_pair old v k))
    → ((v k : Value) → has_pair new v k ≡ cond (is_value is v && is_eq (value_cmp key k)) true (has_pair between v k))
    → MovesTo old key is new
moved old between new key was is holds taken put v k =
    elim (cases_Bool (is_eq (value_cmp key k))) [
      | inl here ↦
          let at : has_pair old v k ≡ is_value was v = ap (λ q. has_pair old v q) (sym (keys_equal key k here)) ∙ holds v in
          put v k ∙ ap (λ b. cond (is_value is v && is_eq (value_cmp key k)) true b) (taken v k)
          ∙ ap (λ b. cond (is_value is v && b) true (cond (is_value was v && b) false (has_pair old v k))) here
          ∙ put_over (is_value is v) (is_value was v) (has_pair old v k) at
          ∙ sym (ap (λ b. cond b (is_value is v) (has_pair old v k)) here)
      | inr away ↦
          put v k ∙ ap (λ b. cond (is_value is v && is_eq (value_cmp key k)) true b) (taken v k)
          ∙ ap (λ b. cond (is_value is v && b) true (cond (is_value was v && b) false (has_pair old v k))) away
          ∙ nowhere (is_value is v) true (cond (is_value was v && false) false (has_pair old v k))
          ∙ nowhere (is_value was v) false (has_pair old v k)
          ∙ sym (ap (λ b. cond b (is_value is v) (has_pair old v k)) away)
    ]

-- the index of the rows with one changed
pub index_changed : (old new : ColumnIndex) (row_of : Value → Option (List Value)) (key : Value) (row : Option (List Value)) → new.column ≡ old.column → IsIndexOf row_of old
    → MovesTo old.pairs.keys key (value_in row old.column) new.pairs.keys → IsIndexOf (with_row row_of key row) new
index_changed old new row_of key row column held moves v k =
    moves v k ∙ by_key (is_eq (value_cmp key k)) ∙ ap (λ c. is_value (value_in (with_row row_of key row k) c) v) (sym column)
  where
    by_key : (b : Bool) → cond b (is_value (value_in row old.column) v) (has_pair old.pairs.keys v k) ≡ is_value (value_in (cond b row (row_of k)) old.column) v
    by_key true = refl
    by_key false = held v k

-- the indexes of rows that are the same at each key
pub same_indexed : (f g : Value → Option (List Value)) → ((q : Value) → g q ≡ f q) → (indexes : List ColumnIndex) → AreIndexesOf f indexes → AreIndexesOf g indexes
same_indexed f g same [] all = tt
same_indexed f g same (index ∷ indexes) all =
    (λ v k. all.0 v k ∙ ap (λ r. is_value (value_in r index.column) v) (sym (same k)), same_indexed f g same indexes all.1)

-- ---- the rows one after the other

pub none_above : (key : Value) (entries : Keyed) → AllByRecursion (λ k. value_cmp key k ≡ Less) (keys_of entries) → keyed_of entries key ≡ None
none_above key [] above = refl
none_above key (entry ∷ rest) above =
    ap (λ o. cond (is_eq o) (Some entry.1) (keyed_of rest key)) above.0 ∙ none_above key rest above.1

-- what the pairs have, and the rows beside them
abbrev pub has_either : List (List Value) → List Pair → ℕ → Value → Value → Bool
has_either rows pairs column v k = cond (has_value rows column v k) true (has_pair pairs v k)

-- in rising order of key the rows have the value of the one at the key
pub value_at_key : (rows : List (List Value)) (column : ℕ) (v k : Value) → KeysRise (map keyed rows) → has_value rows column v k ≡ is_value (value_in (keyed_of (map keyed rows) k) column) v
unfolding IsStrictlySortedBy
value_at_key [] column v k rise = refl
value_at_key (row ∷ rows) column v k rise = by_key (cases_Bool (is_eq (value_cmp k (key_of row)))) (value_at_key rows column v k rise.1)
  where
    there : Bool → Bool
    there b = (is_value (slice_get row column) v && b) || has_value rows column v k

    at : Bool → Bool
    at b = is_value (value_in (cond b (Some row) (keyed_of (map keyed rows) k)) column) v

    by_key : (is_eq (value_cmp k (key_of row)) ≡ true) ⊎ (is_eq (value_cmp k (key_of row)) ≡ false) → has_value rows column v k ≡ is_value (value_in (keyed_of (map keyed rows) k) column) v → there (is_eq (value_cmp (key_of row) k)) ≡ at (is_eq (value_cmp k (key_of row)))
    by_key (inl here) more =
        let same : k ≡ key_of row = keys_equal k (key_of row) here in
        let none : keyed_of (map keyed rows) k ≡ None = subst (λ q. keyed_of (map keyed rows) q ≡ None) (sym same) (none_above (key_of row) (map keyed rows) rise.0) in
        ap there (keys_equal_if (key_of row) k (sym same))
        ∙ ap (λ b. (is_value (slice_get row column) v && true) || b) (more ∙ ap (λ r. is_value (value_in r column) v) none)
        ∙ as_it_is (is_value (slice_get row column) v)
        ∙ sym (ap at here)
      where
        as_it_is : (b : Bool) → ((b && true) || false) ≡ b
        as_it_is true = refl
        as_it_is false = refl
    by_key (inr away) more =
        ap there (other_way (cases_Bool (is_eq (value_cmp (key_of row) k))))
        ∙ ap (λ b. b || has_value rows column v k) (never_both (is_value (slice_get row column) v))
        ∙ more
        ∙ sym (ap at away)
      where
        never_both : (b : Bool) → (b && false) ≡ false
        never_both true = refl
        never_both false = refl

        other_way : (is_eq (value_cmp (key_of row) k) ≡ true) ⊎ (is_eq (value_cmp (key_of row) k) ≡ false) → is_eq (value_cmp (key_of row) k) ≡ false
        other_way (inl h) = let never : true ≡ false = sym (keys_equal_if k (key_of row) (sym (keys_equal (key_of row) k h))) ∙ away in cc
        other_way (inr h) = h

-- the pairs of all rows are their index
pub all_put : (index : ColumnIndex) (column : ℕ) (rows : List (List Value)) (entries : Keyed) → index.column ≡ column → map keyed rows ≡ entries → KeysRise entries
    → ((v k : Value) → has_pair index.pairs.keys v k ≡ has_value rows column v k) → IsIndexOf (keyed_of entries) index
all_put index column rows entries same are rise held v k =
    held v k ∙ value_at_key rows column v k (subst KeysRise (sym are) rise)
    ∙ ap (λ (es : Keyed). is_value (value_in (keyed_of es k) column) v) are
    ∙ ap (λ c. is_value (value_in (keyed_of entries k) c) v) (sym same)

-- ---- the indexes one after the other

-- the first ones are those of some rows, and the others of other rows
abbrev pub Halves : (ColumnIndex → Type 0) → (ColumnIndex → Type 0) → ℕ → List ColumnIndex → Type 0
Halves done left zero items = AllByRecursion left items
Halves done left (suc n) [] = Unit {0}
Halves done left (suc n) (item ∷ items) = done item × Halves done left n items

pub next_is_left : (done left : ColumnIndex → Type 0) (n : ℕ) (items : List ColumnIndex) (item : ColumnIndex) → Halves done left n items → n < length items → item ≡ get_or items n item → left item
next_is_left done left n [] item halves within at = absurd (omega arith)
next_is_left done left zero (first ∷ items) item halves within at = subst left (sym at) halves.0
next_is_left done left (suc n) (first ∷ items) item halves within at = next_is_left done left n items item halves.1 (omega arith) at

next_done : (done left : ColumnIndex → Type 0) (n : ℕ) (items : List ColumnIndex) (item : ColumnIndex) → Halves done left n items → done item → Halves done left (suc n) (slice_set items n item)
next_done done left zero [] item halves here = tt
next_done done left zero (first ∷ items) item halves here = (here, halves.1)
next_done done left (suc n) [] item halves here = tt
next_done done left (suc n) (first ∷ items) item halves here = (halves.0, next_done done left n items item halves.1 here)

pub one_more_done : (done left : ColumnIndex → Type 0) (n : ℕ) (items : List ColumnIndex) (item : ColumnIndex) → Halves done left n items → done item → Halves done left (n + 1) (slice_set items n item)
one_more_done done left n items item halves here =
    let more : suc n ≡ n + 1 = omega arith in
    subst (λ m. Halves done left m (slice_set items n item)) more (next_done done left n items item halves here)

pub all_done : (done left : ColumnIndex → Type 0) (n : ℕ) (items : List ColumnIndex) → Halves done left n items → length items ≤ n → AllByRecursion done items
all_done done left n [] halves long = tt
all_done done left zero (item ∷ items) halves long = absurd (omega arith)
all_done done left (suc n) (item ∷ items) halves long = (halves.0, all_done done left n items halves.1 (omega arith))
