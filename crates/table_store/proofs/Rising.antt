-- Rows in rising order of key.
use Rattle.std.proofs.Common.{arith, ◌≡◌, inl, inr, ℕ, zero, suc, ◌<◌, ◌≤◌, get_or, take, drop, Bool, true, false, cond, List, [], ◌∷◌, ◌++◌, length, slice_set, map, refl, sym, ◌∙◌, ap, subst}
use Rattle.std.specs.Prelude.{Option, Some, None, not, slice_get}
use Rattle.std.specs.List.{AllByRecursion, filter}
use Rattle.std.specs.List.Sorted.{IsPartitionPoint, IsPartitionedBy, IsStrictlySortedBy}
use Rattle.std.specs.Option.{option_or}
use Rattle.std.specs.declared.cmp.Ordering.{Ordering}
use Rattle.std.specs.declared.cmp.Ordering.TheVariants.{Less, Equal, Greater}
use Rattle.std.specs.declared.ops.Bound.{Bound}
use Rattle.std.specs.Ordering.{eq_by_cmp, is_eq, is_le, is_lt, match_ordering, ordering_reverse}
use Rattle.std.specs.BTreeMap.{insert_entry}
use Rattle.std.specs.BTreeMap.Range.{entries_between, range_contains}
use Rattle.std.specs.Map.{keys_of, update_all, values_of}
use Rattle.std.proofs.lemmas.Bool.{and_from, and_left, and_right, cases_Bool}
use Rattle.std.proofs.lemmas.Cmp.{eq_by_cmp_equiv}
use Rattle.std.proofs.lemmas.List.{drop_all, length-take}
use Rattle.std.proofs.lemmas.Map.Keys.{IsDistinct-from_sorted}
use Rattle.std.proofs.lemmas.Map.Made.{update_all_distinct}
use Rattle.svc_values.specs.declared.value.Value.{Value}
use Rattle.svc_values.specs.meaning.Order.{value_cmp}
use Rattle.svc_values.specs.meaning.Schemas.{key_of}
use Rattle.svc_values.proofs.Offered.{value_cmp_total}
use Rattle.table_store.specs.Given.{keyed}
use Rattle.table_store.specs.Blocks.{is_behind, is_below, is_up_to, rise_behind, StartsAt, EndsAt, without}
use Rattle.table_store.specs.Rows.{Keyed, KeysRise, keyed_of}
use Rattle.table_store.proofs.Changes.{both_true}
use Rattle.table_store.proofs.Indexed.{none_above}
use Rattle.table_store.proofs.Maps.{keys_equal}

-- ---- the order of keys

greater_if : (o : Ordering) → not (is_le o) ≡ true → o ≡ Greater
greater_if Less h = cc
greater_if Equal h = cc
greater_if Greater h = refl

pub less_if : (o : Ordering) → is_lt o ≡ true → o ≡ Less
less_if Less h = refl
less_if Equal h = cc
less_if Greater h = cc

equal_if : (o : Ordering) → is_eq o ≡ true → o ≡ Equal
equal_if Less h = cc
equal_if Equal h = refl
equal_if Greater h = cc

below_if : (o : Ordering) → not (is_le o) ≡ false → is_eq o ≡ false → o ≡ Less
below_if Less h k = refl
below_if Equal h k = cc
below_if Greater h k = cc

le_if : (o : Ordering) → is_lt o ≡ true → is_le o ≡ true
le_if Less h = refl
le_if Equal h = cc
le_if Greater h = cc

eq_reversed : (o : Ordering) → is_eq (ordering_reverse o) ≡ is_eq o
eq_reversed Less = refl
eq_reversed Equal = refl
eq_reversed Greater = refl

pub eq_turned : (a b : Value) → is_eq (value_cmp a b) ≡ is_eq (value_cmp b a)
eq_turned a b = ap is_eq (value_cmp_total.antisymm a b) ∙ eq_reversed (value_cmp b a)

pub turned : (a b : Value) (o : Ordering) → value_cmp a b ≡ o → value_cmp b a ≡ ordering_reverse o
turned a b o e = value_cmp_total.antisymm b a ∙ ap ordering_reverse e

less_behind : (a b c : Value) → is_le (value_cmp a b) ≡ true → value_cmp b c ≡ Less → value_cmp a c ≡ Less
less_behind a b c h less = by (value_cmp a b) refl
  where
    by : (o : Ordering) → value_cmp a b ≡ o → value_cmp a c ≡ Less
    by Less e = value_cmp_total.trans a b c e less
    by Equal e = value_cmp_total.congr a b c e ∙ less
    by Greater e = let never : true ≡ false = sym h ∙ ap is_le e in cc

-- ---- tests that hold of the first rows

-- what holds of a key holds of each one below it
abbrev Falls : (Value → Bool) → Type 0
Falls p = (a b : Value) → value_cmp a b ≡ Less → p b ≡ true → p a ≡ true

below_falls : (key : Value) → Falls (λ v. not (is_le (value_cmp key v)))
below_falls key a b less h =
    elim (cases_Bool (is_le (value_cmp key a))) [
      | inl le ↦ let never : false ≡ true = sym (ap (λ o. not (is_le o)) (less_behind key a b le less)) ∙ h in cc
      | inr over ↦ ap not over
    ]

pub up_to_falls : (key : Value) → Falls (λ v. not (is_lt (value_cmp key v)))
up_to_falls key a b less h =
    elim (cases_Bool (is_lt (value_cmp key a))) [
      | inl lt ↦ let never : false ≡ true = sym (ap (λ o. not (is_lt o)) (less_behind key a b (le_if (value_cmp key a) lt) less)) ∙ h in cc
      | inr over ↦ ap not over
    ]

above_at : (key : Value) (rows : List (List Value)) (j : ℕ) (d : List Value) → AllByRecursion (λ k. value_cmp key k ≡ Less) (keys_of (map keyed rows)) → j < length rows → value_cmp key (key_of (get_or rows j d)) ≡ Less
above_at key [] j d above within = absurd (omega (arith, within))
above_at key (row ∷ rows) zero d above within = above.0
above_at key (row ∷ rows) (suc j) d above within = above_at key rows j d above.1 (omega (arith, within))

parts : (p : Value → Bool) → Falls p → (rows : List (List Value)) → KeysRise (map keyed rows) → (i j : ℕ) (d : List Value) → i ≤ j → j < length rows → p (key_of (get_or rows j d)) ≡ true → p (key_of (get_or rows i d)) ≡ true
unfolding IsStrictlySortedBy
parts p falls [] rise i j d up within h = absurd (omega (arith, within))
parts p falls (row ∷ rows) rise zero zero d up within h = h
parts p falls (row ∷ rows) rise zero (suc j) d up within h = falls (key_of row) (key_of (get_or rows j d)) (above_at (key_of row) rows j d rise.0 (omega (arith, within))) h
parts p falls (row ∷ rows) rise (suc i) zero d up within h = absurd (omega (arith, up))
parts p falls (row ∷ rows) rise (suc i) (suc j) d up within h = parts p falls rows rise.1 i j d (omega (arith, up)) (omega (arith, within)) h

pub below_parts : (rows : List (List Value)) (key : Value) → KeysRise (map keyed rows) → IsPartitionedBy (λ row. is_below key row) rows
below_parts rows key rise = λ i j d up within h. parts (λ v. not (is_le (value_cmp key v))) (below_falls key) rows rise i j d up within h

pub up_to_parts : (rows : List (List Value)) (key : Value) → KeysRise (map keyed rows) → IsPartitionedBy (λ row. is_up_to key row) rows
up_to_parts rows key rise = λ i j d up within h. parts (λ v. not (is_lt (value_cmp key v))) (up_to_falls key) rows rise i j d up within h

-- ---- the row of a key

abbrev pub BelowAt : Value → List (List Value) → ℕ → Type 0
BelowAt key rows at = IsPartitionPoint (λ row. is_below key row ≡ true) (λ row. is_below key row ≡ false) rows at

behind_first : (key : Value) (row : List Value) (rows : List (List Value)) (at : ℕ) → BelowAt key (row ∷ rows) (suc at) → BelowAt key rows at
behind_first key row rows at point = (λ k d from below. point.0 (suc k) d (omega arith) (omega (arith, below)), λ k d from below. point.1 (suc k) d (omega (arith, from)) (omega (arith, below)))

first_below : (key : Value) (row : List Value) (rows : List (List Value)) (at : ℕ) → BelowAt key (row ∷ rows) (suc at) → value_cmp key (key_of row) ≡ Greater
first_below key row rows at point = greater_if (value_cmp key (key_of row)) (point.0 0 row (omega arith) (omega arith))

abbrev pub if_key : Value → Option (List Value) → Option (List Value)
if_key key None = None
if_key key (Some row) = cond (is_eq (value_cmp key (key_of row))) (Some row) None

pub if_key_is : (key : Value) (row : List Value) → is_eq (value_cmp key (key_of row)) ≡ true → if_key key (Some row) ≡ Some row
if_key_is key row h = ap (λ b. cond b (Some row) None) h

pub if_key_not : (key : Value) (row : List Value) → is_eq (value_cmp key (key_of row)) ≡ false → if_key key (Some row) ≡ None
if_key_not key row h = ap (λ b. cond b (Some row) None) h

pub all_above : (a b : Value) (ks : List Value) → value_cmp a b ≡ Less → AllByRecursion (λ k. value_cmp b k ≡ Less) ks → AllByRecursion (λ k. value_cmp a k ≡ Less) ks
all_above a b [] less above = tt
all_above a b (k ∷ ks) less above = (value_cmp_total.trans a b k less above.0, all_above a b ks less above.1)

-- the row of a key is that behind the rows with keys below it, or there is none
pub found_at : (rows : List (List Value)) (key : Value) (at : ℕ) → KeysRise (map keyed rows) → BelowAt key rows at → keyed_of (map keyed rows) key ≡ if_key key (slice_get rows at)
unfolding IsStrictlySortedBy
found_at [] key at rise point = refl
found_at (row ∷ rows) key zero rise point =
    elim (cases_Bool (is_eq (value_cmp key (key_of row)))) [
      | inl here ↦ rw here refl
      | inr away ↦
          let less : value_cmp key (key_of row) ≡ Less = below_if (value_cmp key (key_of row)) (point.1 0 row (omega arith) (omega arith)) away in
          ap (λ b. cond b (Some row) (keyed_of (map keyed rows) key)) away
          ∙ none_above key (map keyed rows) (all_above key (key_of row) (keys_of (map keyed rows)) less rise.0)
          ∙ sym (ap (λ b. cond b (Some row) None) away)
    ]
found_at (row ∷ rows) key (suc at) rise point =
    ap (λ o. cond (is_eq o) (Some row) (keyed_of (map keyed rows) key)) (first_below key row rows at point)
    ∙ found_at rows key at rise.1 (behind_first key row rows at point)

pub below_in : (key : Value) (seen rows : List (List Value)) (at : ℕ) → seen ≡ rows → BelowAt key seen at → BelowAt key rows at
below_in key seen rows at same point = subst (λ (l : List (List Value)). BelowAt key l at) same point

-- ---- a row that is put in

pub put_behind : (rows : List (List Value)) (key : Value) (row : List Value) (at : ℕ) → BelowAt key rows at → length rows ≤ at → key_of row ≡ key → map keyed (rows ++ row ∷ []) ≡ insert_entry value_cmp (map keyed rows) key row
put_behind [] key row at point over own = ap (λ k. (k, row) ∷ []) own
put_behind (r ∷ rows) key row zero point over own = absurd (omega (arith, over))
put_behind (r ∷ rows) key row (suc at) point over own =
    ap (λ l. keyed r ∷ l) (put_behind rows key row at (behind_first key r rows at point) (omega (arith, over)) own)
    ∙ sym (ap (λ o. match_ordering o ((key, row) ∷ map keyed (r ∷ rows)) ((key_of r, row) ∷ map keyed rows) (keyed r ∷ insert_entry value_cmp (map keyed rows) key row)) (first_below key r rows at point))

pub put_over : (rows : List (List Value)) (key : Value) (row d : List Value) (at : ℕ) → BelowAt key rows at → at < length rows → is_eq (value_cmp key (key_of (get_or rows at d))) ≡ true → key_of row ≡ key
    → map keyed (slice_set rows at row) ≡ insert_entry value_cmp (map keyed rows) key row
put_over [] key row d at point within here own = absurd (omega (arith, within))
put_over (r ∷ rows) key row d zero point within here own =
    ap (λ k. (k, row) ∷ map keyed rows) (own ∙ keys_equal key (key_of r) here)
    ∙ sym (ap (λ o. match_ordering o ((key, row) ∷ map keyed (r ∷ rows)) ((key_of r, row) ∷ map keyed rows) (keyed r ∷ insert_entry value_cmp (map keyed rows) key row)) (equal_if (value_cmp key (key_of r)) here))
put_over (r ∷ rows) key row d (suc at) point within here own =
    ap (λ l. keyed r ∷ l) (put_over rows key row d at (behind_first key r rows at point) (omega (arith, within)) here own)
    ∙ sym (ap (λ o. match_ordering o ((key, row) ∷ map keyed (r ∷ rows)) ((key_of r, row) ∷ map keyed rows) (keyed r ∷ insert_entry value_cmp (map keyed rows) key row)) (first_below key r rows at point))

pub put_between : (rows : List (List Value)) (key : Value) (row d : List Value) (at : ℕ) → BelowAt key rows at → at < length rows → is_eq (value_cmp key (key_of (get_or rows at d))) ≡ false → key_of row ≡ key
    → map keyed (take at rows ++ row ∷ drop at rows) ≡ insert_entry value_cmp (map keyed rows) key row
put_between [] key row d at point within away own = absurd (omega (arith, within))
put_between (r ∷ rows) key row d zero point within away own =
    ap (λ k. (k, row) ∷ map keyed (r ∷ rows)) own
    ∙ sym (ap (λ o. match_ordering o ((key, row) ∷ map keyed (r ∷ rows)) ((key_of r, row) ∷ map keyed rows) (keyed r ∷ insert_entry value_cmp (map keyed rows) key row))
    (below_if (value_cmp key (key_of r)) (point.1 0 r (omega arith) (omega arith)) away))
put_between (r ∷ rows) key row d (suc at) point within away own =
    ap (λ l. keyed r ∷ l) (put_between rows key row d at (behind_first key r rows at point) (omega (arith, within)) away own)
    ∙ sym (ap (λ o. match_ordering o ((key, row) ∷ map keyed (r ∷ rows)) ((key_of r, row) ∷ map keyed rows) (keyed r ∷ insert_entry value_cmp (map keyed rows) key row)) (first_below key r rows at point))

-- ---- a row that is taken away

pub kept_one : (key : Value) (row : List Value) (rows : List (List Value)) → is_eq (value_cmp key (key_of row)) ≡ false → without key (row ∷ rows) ≡ row ∷ without key rows
kept_one key row rows away = ap (λ b. cond (not b) (row ∷ without key rows) (without key rows)) away

left_out : (key : Value) (row : List Value) (rows : List (List Value)) → is_eq (value_cmp key (key_of row)) ≡ true → without key (row ∷ rows) ≡ without key rows
left_out key row rows here = ap (λ b. cond (not b) (row ∷ without key rows) (without key rows)) here

-- rows with keys above are all kept
pub none_out : (key : Value) (rows : List (List Value)) → AllByRecursion (λ k. value_cmp key k ≡ Less) (keys_of (map keyed rows)) → without key rows ≡ rows
none_out key [] above = refl
none_out key (row ∷ rows) above = kept_one key row rows (ap is_eq above.0) ∙ ap (λ l. row ∷ l) (none_out key rows above.1)

pub taken_at : (rows : List (List Value)) (key : Value) (d : List Value) (at : ℕ) → KeysRise (map keyed rows) → BelowAt key rows at → at < length rows → is_eq (value_cmp key (key_of (get_or rows at d))) ≡ true → take at rows ++ drop (suc at) rows ≡ without key rows
unfolding IsStrictlySortedBy
taken_at [] key d at rise point within here = absurd (omega (arith, within))
taken_at (row ∷ rows) key d zero rise point within here =
    sym (left_out key row rows here ∙ none_out key rows (subst (λ (k : Value). AllByRecursion (λ j. value_cmp k j ≡ Less) (keys_of (map keyed rows))) (sym (keys_equal key (key_of row) here)) rise.0))
taken_at (row ∷ rows) key d (suc at) rise point within here =
    ap (λ l. row ∷ l) (taken_at rows key d at rise.1 (behind_first key row rows at point) (omega (arith, within)) here)
    ∙ sym (kept_one key row rows (ap is_eq (first_below key row rows at point)))

pub none_at : (rows : List (List Value)) (key : Value) (d : List Value) (at : ℕ) → KeysRise (map keyed rows) → BelowAt key rows at → at < length rows → is_eq (value_cmp key (key_of (get_or rows at d))) ≡ false → rows ≡ without key rows
unfolding IsStrictlySortedBy
none_at [] key d at rise point within away = absurd (omega (arith, within))
none_at (row ∷ rows) key d zero rise point within away =
    let less : value_cmp key (key_of row) ≡ Less = below_if (value_cmp key (key_of row)) (point.1 0 row (omega arith) (omega arith)) away in
    sym (none_out key (row ∷ rows) (less, all_above key (key_of row) (keys_of (map keyed rows)) less rise.0))
none_at (row ∷ rows) key d (suc at) rise point within away =
    ap (λ l. row ∷ l) (none_at rows key d at rise.1 (behind_first key row rows at point) (omega (arith, within)) away)
    ∙ sym (kept_one key row rows (ap is_eq (first_below key row rows at point)))

pub none_behind : (rows : List (List Value)) (key : Value) (at : ℕ) → BelowAt key rows at → length rows ≤ at → rows ≡ without key rows
none_behind [] key at point over = refl
none_behind (row ∷ rows) key zero point over = absurd (omega (arith, over))
none_behind (row ∷ rows) key (suc at) point over =
    ap (λ l. row ∷ l) (none_behind rows key at (behind_first key row rows at point) (omega (arith, over)))
    ∙ sym (kept_one key row rows (ap is_eq (first_below key row rows at point)))

twice : (b : Bool) (x y z : Option (List Value)) → cond b x z ≡ cond b x (cond b y z)
twice true x y z = refl
twice false x y z = refl

-- what is found at a key once a row was put in
pub put_found : (es : Keyed) (key : Value) (row : List Value) (q : Value) → keyed_of (insert_entry value_cmp es key row) q ≡ cond (is_eq (value_cmp key q)) (Some row) (keyed_of es q)
put_found [] key row q = ap (λ b. cond b (Some row) None) (eq_turned q key)
put_found (e ∷ es) key row q = by (put_found es key row q) (value_cmp key e.0) refl
  where
    by : keyed_of (insert_entry value_cmp es key row) q ≡ cond (is_eq (value_cmp key q)) (Some row) (keyed_of es q) → (o : Ordering) → value_cmp key e.0 ≡ o
        → keyed_of (match_ordering o ((key, row) ∷ e ∷ es) ((e.0, row) ∷ es) (e ∷ insert_entry value_cmp es key row)) q ≡ cond (is_eq (value_cmp key q)) (Some row) (keyed_of (e ∷ es) q)
    by rest Less h = ap (λ b. cond b (Some row) (keyed_of (e ∷ es) q)) (eq_turned q key)
    by rest Equal h =
        let same : is_eq (value_cmp q e.0) ≡ is_eq (value_cmp key q) = ap (λ (k : Value). is_eq (value_cmp q k)) (sym (keys_equal key e.0 (ap is_eq h))) ∙ eq_turned q key in
        ap (λ b. cond b (Some row) (keyed_of es q)) same ∙ twice (is_eq (value_cmp key q)) (Some row) (Some e.1) (keyed_of es q)
        ∙ ap (λ b. cond (is_eq (value_cmp key q)) (Some row) (cond b (Some e.1) (keyed_of es q))) (sym same)
    by rest Greater h =
        elim (cases_Bool (is_eq (value_cmp q e.0))) [
          | inl here ↦
              let other : is_eq (value_cmp key q) ≡ false = ap (λ (k : Value). is_eq (value_cmp key k)) (keys_equal q e.0 here) ∙ ap is_eq h in rw (here, other) refl
          | inr away ↦ rw away rest
        ]

put_above : (a : Value) (es : Keyed) (key : Value) (row : List Value) → AllByRecursion (λ k. value_cmp a k ≡ Less) (keys_of es) → value_cmp a key ≡ Less → AllByRecursion (λ k. value_cmp a k ≡ Less) (keys_of (insert_entry value_cmp es key row))
put_above a [] key row above less = (less, tt)
put_above a (e ∷ es) key row above less = by (put_above a es key row above.1 less) (value_cmp key e.0)
  where
    by : AllByRecursion (λ k. value_cmp a k ≡ Less) (keys_of (insert_entry value_cmp es key row)) → (o : Ordering)
        → AllByRecursion (λ k. value_cmp a k ≡ Less) (keys_of (match_ordering o ((key, row) ∷ e ∷ es) ((e.0, row) ∷ es) (e ∷ insert_entry value_cmp es key row)))
    by rest Less = (less, above)
    by rest Equal = above
    by rest Greater = (above.0, rest)

pub put_rises : (es : Keyed) (key : Value) (row : List Value) → KeysRise es → KeysRise (insert_entry value_cmp es key row)
unfolding IsStrictlySortedBy
put_rises [] key row rise = (tt, tt)
put_rises (e ∷ es) key row rise = by (put_rises es key row rise.1) (value_cmp key e.0) refl
  where
    by : KeysRise (insert_entry value_cmp es key row) → (o : Ordering) → value_cmp key e.0 ≡ o → KeysRise (match_ordering o ((key, row) ∷ e ∷ es) ((e.0, row) ∷ es) (e ∷ insert_entry value_cmp es key row))
    by rest Less h = ((h, all_above key e.0 (keys_of es) h rise.0), rise)
    by rest Equal h = rise
    by rest Greater h = (put_above e.0 es key row rise.0 (turned key e.0 Greater h), rest)

-- ---- rows that rise

risen : (last : Value) (rows : List (List Value)) → rise_behind (Some last) rows ≡ true → AllByRecursion (λ k. value_cmp last k ≡ Less) (keys_of (map keyed rows)) × KeysRise (map keyed rows)
unfolding IsStrictlySortedBy
risen last [] h = (tt, tt)
risen last (row ∷ rows) h =
    let both = both_true (is_behind (Some last) row) (rise_behind (Some (key_of row)) rows) h in
    let less = less_if (value_cmp last (key_of row)) both.0 in
    let rest = risen (key_of row) rows both.1 in
    ((less, all_above last (key_of row) (keys_of (map keyed rows)) less rest.0), rest)

pub rises_if : (rows : List (List Value)) → rise_behind None rows ≡ true → KeysRise (map keyed rows)
unfolding IsStrictlySortedBy
rises_if [] h = tt
rises_if (row ∷ rows) h = risen (key_of row) rows h

or_none : (o : Option (List Value)) → o ≡ option_or o None
or_none None = refl
or_none (Some row) = refl

-- rows that rise are found as if they were put in one after the other
pub found_of : (es : Keyed) (q : Value) → KeysRise es → keyed_of es q ≡ update_all (eq_by_cmp value_cmp) (λ _. None) es q
found_of es q rise =
    or_none (keyed_of es q)
    ∙ sym (update_all_distinct (eq_by_cmp_equiv value_cmp_total) (eq_by_cmp value_cmp) (λ x y. refl) (λ _. None) es q (IsDistinct-from_sorted value_cmp (keys_of es) rise))

pub values_keyed : (rows : List (List Value)) → values_of (map keyed rows) ≡ rows
values_keyed [] = refl
values_keyed (row ∷ rows) = ap (λ l. row ∷ l) (values_keyed rows)

-- ---- the rows between two ends

not_true : (b : Bool) → not b ≡ true → b ≡ false
not_true true h = cc
not_true false h = refl

not_false : (b : Bool) → not b ≡ false → b ≡ true
not_false true h = refl
not_false false h = cc

abbrev in_part : Bound Value → Bound Value → List Value → Bool
in_part lo hi row = range_contains value_cmp lo hi (key_of row)

filter_keyed : (lo hi : Bound Value) (rows : List (List Value)) → entries_between value_cmp lo hi (map keyed rows) ≡ map keyed (filter (in_part lo hi) rows)
filter_keyed lo hi [] = refl
filter_keyed lo hi (row ∷ rows) = by (in_part lo hi row) refl (filter_keyed lo hi rows)
  where
    by : (b : Bool) → in_part lo hi row ≡ b → entries_between value_cmp lo hi (map keyed rows) ≡ map keyed (filter (in_part lo hi) rows) → entries_between value_cmp lo hi (map keyed (row ∷ rows)) ≡ map keyed (filter (in_part lo hi) (row ∷ rows))
    by true is rest = rw is (ap (λ (l : Keyed). keyed row ∷ l) rest)
    by false is rest = rw is rest

-- from one place up to another each row passes the test, and no other does
record IsPart (test : List Value → Bool) (xs : List (List Value)) (start end : ℕ) : Type 0 where
  before : (k : ℕ) (d : List Value) → k < length xs → k < start → test (get_or xs k d) ≡ false
  within : (k : ℕ) (d : List Value) → k < length xs → start ≤ k → k < end → test (get_or xs k d) ≡ true
  behind : (k : ℕ) (d : List Value) → k < length xs → end ≤ k → test (get_or xs k d) ≡ false

nothing_left : (n : ℕ) → ◌≡◌ {A = List (List Value)} (drop n []) []
nothing_left zero = refl
nothing_left (suc n) = refl

filter_from : (test : List Value → Bool) (x : List Value) (xs : List (List Value)) (b : Bool) → test x ≡ b → filter test (x ∷ xs) ≡ cond b (x ∷ filter test xs) (filter test xs)
filter_from test x xs true is = rw is refl
filter_from test x xs false is = rw is refl

part_is : (test : List Value → Bool) (xs : List (List Value)) (start end : ℕ) → IsPart test xs start end → filter test xs ≡ drop start (take end xs)
part_is test [] start zero is = sym (nothing_left start)
part_is test [] start (suc end) is = sym (nothing_left start)
part_is test (x ∷ xs) zero zero is =
    filter_from test x xs false (is.behind 0 x (omega arith) (omega arith))
    ∙ part_is test xs zero zero (record {
      before = λ k d in_range below. is.before (suc k) d (omega (arith, in_range)) (omega (arith, below));
      within = λ k d in_range above below. is.within (suc k) d (omega (arith, in_range)) (omega (arith, above)) (omega (arith, below));
      behind = λ k d in_range above. is.behind (suc k) d (omega (arith, in_range)) (omega (arith, above));
    })
part_is test (x ∷ xs) zero (suc end) is =
    filter_from test x xs true (is.within 0 x (omega arith) (omega arith) (omega arith))
    ∙ ap (λ rest. x ∷ rest) (part_is test xs zero end (record {
      before = λ k d in_range below. absurd (omega (arith, below));
      within = λ k d in_range above below. is.within (suc k) d (omega (arith, in_range)) (omega arith) (omega (arith, below));
      behind = λ k d in_range above. is.behind (suc k) d (omega (arith, in_range)) (omega (arith, above));
    }))
part_is test (x ∷ xs) (suc start) zero is =
    filter_from test x xs false (is.before 0 x (omega arith) (omega arith))
    ∙ (part_is test xs start zero (record {
      before = λ k d in_range below. is.before (suc k) d (omega (arith, in_range)) (omega (arith, below));
      within = λ k d in_range above below. absurd (omega (arith, below));
      behind = λ k d in_range above. is.behind (suc k) d (omega (arith, in_range)) (omega arith);
    })
    ∙ nothing_left start)
part_is test (x ∷ xs) (suc start) (suc end) is =
    filter_from test x xs false (is.before 0 x (omega arith) (omega arith))
    ∙ part_is test xs start end (record {
      before = λ k d in_range below. is.before (suc k) d (omega (arith, in_range)) (omega (arith, below));
      within = λ k d in_range above below. is.within (suc k) d (omega (arith, in_range)) (omega (arith, above)) (omega (arith, below));
      behind = λ k d in_range above. is.behind (suc k) d (omega (arith, in_range)) (omega (arith, above));
    })

pub between_is : (lo hi : Bound Value) (rows : List (List Value)) (start end : ℕ) → StartsAt lo rows start → EndsAt hi rows end → entries_between value_cmp lo hi (map keyed rows) ≡ map keyed (drop start (take end rows))
between_is lo hi rows start end starts ends =
    filter_keyed lo hi rows
    ∙ ap (map keyed) (part_is (in_part lo hi) rows start end (record {
      before = λ k d in_range below. and_left _ _ (starts.0 k d (omega arith) below);
      within = λ k d in_range above below. and_from _ _ (starts.1 k d above in_range) (ap not (ends.0 k d (omega arith) below));
      behind = λ k d in_range above. and_right _ _ (ap not (ends.1 k d above in_range));
    }))

pub between_none : (lo hi : Bound Value) (rows : List (List Value)) (start end : ℕ) → StartsAt lo rows start → EndsAt hi rows end → end ≤ start → entries_between value_cmp lo hi (map keyed rows) ≡ []
between_none lo hi rows start end starts ends over =
    let short = length-take end rows in
    between_is lo hi rows start end starts ends ∙ ap (map keyed) (drop_all start (take end rows) (omega (arith, short, over)))

abbrev UpToAt : Value → List (List Value) → ℕ → Type 0
UpToAt key rows at = IsPartitionPoint (λ row. is_up_to key row ≡ true) (λ row. is_up_to key row ≡ false) rows at
