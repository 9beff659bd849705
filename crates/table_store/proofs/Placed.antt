-- Blocks of rows in rising order of key: which one has the row of a key, and what a change of one makes of all.
use Rattle.std.proofs.Common.{arith, ◌≡◌, ℕ, zero, suc, ◌+◌, ◌<◌, ◌≤◌, get_or, take, drop, Bool, true, false, cond, List, [], ◌∷◌, ◌++◌, eqb-true, append_assoc, length, slice_set, map, refl, sym, ◌∙◌, ap, subst}
use Rattle.std.specs.Prelude.{Option, Some, None, Result, Ok, Err, OnOk, OnErr, not, ◌&&◌}
use Rattle.std.specs.Bool.{◌==◌}
use Rattle.std.specs.List.{AllByRecursion, filter}
use Rattle.std.specs.List.Sorted.{IsPartitionPoint, IsPartitionedBy, IsStrictlySortedBy}
use Rattle.std.specs.declared.cmp.Ordering.{Ordering}
use Rattle.std.specs.declared.cmp.Ordering.TheVariants.{Less, Equal, Greater}
use Rattle.std.specs.declared.ops.Bound.{Bound}
use Rattle.std.specs.declared.ops.Bound.TheVariants.{Included, Excluded}
use Rattle.std.specs.Ordering.{eq_by_cmp, is_eq, is_le, is_lt, match_ordering}
use Rattle.std.specs.BTreeMap.{insert_entry}
use Rattle.std.specs.BTreeMap.Range.{entries_between, is_from_start, is_past_end}
use Rattle.std.specs.Map.{keys_of, update_all}
use Rattle.std.proofs.lemmas.Bool.{and_right}
use Rattle.std.proofs.lemmas.Bool.Decides.{nat_tests}
use Rattle.std.proofs.lemmas.List.{append-nil, drop_all, length-take}
use Rattle.std.proofs.lemmas.List.Elements.{filter-append}
use Rattle.svc_values.specs.declared.value.Value.{Value}
use Rattle.svc_values.specs.meaning.Order.{value_cmp}
use Rattle.svc_values.specs.meaning.Schemas.{key_of}
use Rattle.svc_values.proofs.Offered.{value_cmp_total}
use Rattle.table_store.specs.Blocks.{AreFilled, IsPlaceOf, begins_up_to, entries_in, is_up_to, rise_behind, rows_in, without}
use Rattle.table_store.specs.Given.{keyed}
use Rattle.table_store.specs.Rows.{Keyed, KeysRise, keyed_of}
use Rattle.table_store.proofs.Changes.{both_true}
use Rattle.table_store.proofs.Indexed.{none_above}
use Rattle.table_store.proofs.Maps.{keys_equal}
use Rattle.table_store.proofs.Picked.{rise_filter}
use Rattle.table_store.proofs.Rising.{all_above, eq_turned, found_of, kept_one, less_if, none_out, put_found, put_rises, rises_if, turned, up_to_falls}
use Rattle.table_store.proofs.Same.{same_updates}

-- ---- the keys of some rows, and one key

abbrev pub Below : Value → List (List Value) → Type 0
Below key rows = AllByRecursion (λ k. value_cmp key k ≡ Greater) (keys_of (map keyed rows))

abbrev pub Above : Value → List (List Value) → Type 0
Above key rows = AllByRecursion (λ k. value_cmp key k ≡ Less) (keys_of (map keyed rows))

below_front : (key : Value) (xs ys : List (List Value)) → Below key (xs ++ ys) → Below key xs
below_front key [] ys below = tt
below_front key (x ∷ xs) ys below = (below.0, below_front key xs ys below.1)

below_end : (key : Value) (xs ys : List (List Value)) → Below key (xs ++ ys) → Below key ys
below_end key [] ys below = below
below_end key (x ∷ xs) ys below = below_end key xs ys below.1

below_both : (key : Value) (xs ys : List (List Value)) → Below key xs → Below key ys → Below key (xs ++ ys)
below_both key [] ys front behind = behind
below_both key (x ∷ xs) ys front behind = (front.0, below_both key xs ys front.1 behind)

above_end : (key : Value) (xs ys : List (List Value)) → Above key (xs ++ ys) → Above key ys
above_end key [] ys above = above
above_end key (x ∷ xs) ys above = above_end key xs ys above.1

pub rises_end : (xs ys : List (List Value)) → KeysRise (map keyed (xs ++ ys)) → KeysRise (map keyed ys)
unfolding IsStrictlySortedBy
rises_end [] ys rise = rise
rises_end (x ∷ xs) ys rise = rises_end xs ys rise.1

less_up_to : (a b : Value) (o : Ordering) (key : Value) → value_cmp a b ≡ Less → value_cmp key b ≡ o → not (is_lt o) ≡ true → value_cmp key a ≡ Greater
less_up_to a b Less key less is up = cc
less_up_to a b Equal key less is up = turned a key Less (subst (λ (v : Value). value_cmp a v ≡ Less) (sym (keys_equal key b (ap is_eq is))) less)
less_up_to a b Greater key less is up = turned a key Less (value_cmp_total.trans a b key less (turned key b Greater is))

-- rows before one that is not above the key are below it
under : (key : Value) (xs ys : List (List Value)) (row : List Value) → KeysRise (map keyed (xs ++ row ∷ ys)) → is_up_to key row ≡ true → Below key xs
unfolding IsStrictlySortedBy
under key [] ys row rise up = tt
under key (x ∷ xs) ys row rise up =
    (less_up_to (key_of x) (key_of row) (value_cmp key (key_of row)) key (above_end (key_of x) xs (row ∷ ys) rise.0).0 refl up, under key xs ys row rise.1 up)

-- rows from one that is above the key on are above it
over : (key : Value) (row : List Value) (rows : List (List Value)) → KeysRise (map keyed (row ∷ rows)) → is_up_to key row ≡ false → Above key (row ∷ rows)
unfolding IsStrictlySortedBy
over key row rows rise up =
    let less : value_cmp key (key_of row) ≡ Less = less_if (value_cmp key (key_of row)) (not_false (is_lt (value_cmp key (key_of row))) up) in
    (less, all_above key (key_of row) (keys_of (map keyed rows)) less rise.0)
  where
    not_false : (b : Bool) → not b ≡ false → b ≡ true
    not_false true h = refl
    not_false false h = cc

-- ---- the place of a key

begun_falls : (key a : Value) (blocks : List (List (List Value))) (j : ℕ) (d : List (List Value)) → Above a (rows_in blocks) → AreFilled blocks → j < length blocks → begins_up_to key (get_or blocks j d) ≡ true → not (is_lt (value_cmp key a)) ≡ true
begun_falls key a [] j d above filled within up = absurd (omega (arith, within))
begun_falls key a ([] ∷ blocks) j d above filled within up = absurd (omega (arith, filled.0))
begun_falls key a ((row ∷ rows) ∷ blocks) zero d above filled within up = up_to_falls key a (key_of row) above.0 up
begun_falls key a ((row ∷ rows) ∷ blocks) (suc j) d above filled within up = begun_falls key a blocks j d (above_end a (row ∷ rows) (rows_in blocks) above) filled.1 (omega (arith, within)) up

begun_before : (key : Value) (blocks : List (List (List Value))) → AreFilled blocks → KeysRise (entries_in blocks) → (i j : ℕ) (d : List (List Value)) → i ≤ j → j < length blocks → begins_up_to key (get_or blocks j d) ≡ true → begins_up_to key (get_or blocks i d) ≡ true
unfolding IsStrictlySortedBy
begun_before key [] filled rise i j d up within h = absurd (omega (arith, within))
begun_before key ([] ∷ blocks) filled rise i j d up within h = absurd (omega (arith, filled.0))
begun_before key ((row ∷ rows) ∷ blocks) filled rise zero zero d up within h = h
begun_before key ((row ∷ rows) ∷ blocks) filled rise zero (suc j) d up within h = begun_falls key (key_of row) blocks j d (above_end (key_of row) rows (rows_in blocks) rise.0) filled.1 (omega (arith, within)) h
begun_before key ((row ∷ rows) ∷ blocks) filled rise (suc i) zero d up within h = absurd (omega (arith, up))
begun_before key ((row ∷ rows) ∷ blocks) filled rise (suc i) (suc j) d up within h = begun_before key blocks filled.1 (rises_end (row ∷ rows) (rows_in blocks) rise) i j d (omega (arith, up)) (omega (arith, within)) h

pub begun_parts : (blocks : List (List (List Value))) (key : Value) → AreFilled blocks → KeysRise (entries_in blocks) → IsPartitionedBy (λ block. begins_up_to key block) blocks
begun_parts blocks key filled rise = λ i j d up within h. begun_before key blocks filled rise i j d up within h

abbrev pub BegunAt : Value → List (List (List Value)) → ℕ → Type 0
BegunAt key blocks n = IsPartitionPoint (λ block. begins_up_to key block ≡ true) (λ block. begins_up_to key block ≡ false) blocks n

behind_first : (key : Value) (block : List (List Value)) (blocks : List (List (List Value))) (n : ℕ) → BegunAt key (block ∷ blocks) (suc n) → BegunAt key blocks n
behind_first key block blocks n point = (λ k d from below. point.0 (suc k) d (omega arith) (omega (arith, below)), λ k d from below. point.1 (suc k) d (omega (arith, from)) (omega (arith, below)))

none_begun : (key : Value) (blocks : List (List (List Value))) → AreFilled blocks → KeysRise (entries_in blocks) → BegunAt key blocks 0 → Above key (rows_in blocks)
none_begun key [] filled rise point = tt
none_begun key ([] ∷ blocks) filled rise point = absurd (omega (arith, filled.0))
none_begun key ((row ∷ rows) ∷ blocks) filled rise point = over key row (rows ++ rows_in blocks) rise (point.1 0 (row ∷ rows) (omega arith) (omega arith))

pub place_first : (key : Value) (blocks : List (List (List Value))) → AreFilled blocks → KeysRise (entries_in blocks) → BegunAt key blocks 0 → IsPlaceOf key blocks 0
place_first key [] filled rise point = (tt, tt)
place_first key (block ∷ blocks) filled rise point = (tt, above_end key block (rows_in blocks) (none_begun key (block ∷ blocks) filled rise point))

pub place_last : (key : Value) (blocks : List (List (List Value))) (n : ℕ) → AreFilled blocks → KeysRise (entries_in blocks) → n < length blocks → BegunAt key blocks (suc n) → IsPlaceOf key blocks n
place_last key [] n filled rise within point = absurd (omega (arith, within))
place_last key (block ∷ blocks) zero filled rise within point = (tt, none_begun key blocks filled.1 (rises_end block (rows_in blocks) rise) (behind_first key block blocks 0 point))
place_last key (block ∷ []) (suc n) filled rise within point = absurd (omega (arith, within))
place_last key (block ∷ [] ∷ blocks) (suc n) filled rise within point = absurd (omega (arith, filled.1.0))
place_last key (block ∷ (row ∷ rows) ∷ blocks) (suc n) filled rise within point =
    let rest = place_last key ((row ∷ rows) ∷ blocks) n filled.1 (rises_end block (rows_in ((row ∷ rows) ∷ blocks)) rise) (omega (arith, within)) (behind_first key block ((row ∷ rows) ∷ blocks) (suc n) point) in
    (below_both key block (rows_in (take n ((row ∷ rows) ∷ blocks))) (under key block (rows ++ rows_in blocks) row rise (point.0 1 (row ∷ rows) (omega arith) (omega arith))) rest.0, rest.1)

-- ---- what is found at a key

keyed_both : (xs ys : List (List Value)) → map keyed (xs ++ ys) ≡ map keyed xs ++ map keyed ys
keyed_both [] ys = refl
keyed_both (x ∷ xs) ys = ap (λ (l : Keyed). keyed x ∷ l) (keyed_both xs ys)

found_before : (key : Value) (xs ys : List (List Value)) → Above key ys → keyed_of (map keyed (xs ++ ys)) key ≡ keyed_of (map keyed xs) key
found_before key [] ys above = none_above key (map keyed ys) above
found_before key (x ∷ xs) ys above = ap (λ o. cond (is_eq (value_cmp key (key_of x))) (Some x) o) (found_before key xs ys above)

found_behind : (key : Value) (xs ys : List (List Value)) → Below key xs → keyed_of (map keyed (xs ++ ys)) key ≡ keyed_of (map keyed ys) key
found_behind key [] ys below = refl
found_behind key (x ∷ xs) ys below = ap (λ o. cond (is_eq o) (Some x) (keyed_of (map keyed (xs ++ ys)) key)) below.0 ∙ found_behind key xs ys below.1

pub found_in_place : (key : Value) (blocks : List (List (List Value))) (at : ℕ) (d : List (List Value)) → IsPlaceOf key blocks at → at < length blocks → keyed_of (entries_in blocks) key ≡ keyed_of (map keyed (get_or blocks at d)) key
found_in_place key [] at d place within = absurd (omega (arith, within))
found_in_place key (block ∷ blocks) zero d place within = found_before key block (rows_in blocks) place.1
found_in_place key (block ∷ blocks) (suc at) d place within =
    found_behind key block (rows_in blocks) (below_front key block (rows_in (take at blocks)) place.0)
    ∙ found_in_place key blocks at d (below_end key block (rows_in (take at blocks)) place.0, place.1) (omega (arith, within))

pub rises_front : (xs ys : List (List Value)) → KeysRise (map keyed (xs ++ ys)) → KeysRise (map keyed xs)
unfolding IsStrictlySortedBy
rises_front [] ys rise = tt
rises_front (x ∷ xs) ys rise = (front (key_of x) xs rise.0, rises_front xs ys rise.1)
  where
    front : (a : Value) (zs : List (List Value)) → AllByRecursion (λ k. value_cmp a k ≡ Less) (keys_of (map keyed (zs ++ ys))) → AllByRecursion (λ k. value_cmp a k ≡ Less) (keys_of (map keyed zs))
    front a [] above = tt
    front a (z ∷ zs) above = (above.0, front a zs above.1)

-- ---- a row that is put in

put_first : (key : Value) (row : List Value) (ys : List (List Value)) → Above key ys → insert_entry value_cmp (map keyed ys) key row ≡ (key, row) ∷ map keyed ys
put_first key row [] above = refl
put_first key row (y ∷ ys) above = ap (λ o. match_ordering o ((key, row) ∷ map keyed (y ∷ ys)) ((key_of y, row) ∷ map keyed ys) (keyed y ∷ insert_entry value_cmp (map keyed ys) key row)) above.0

put_before : (key : Value) (row : List Value) (xs ys : List (List Value)) → Above key ys → insert_entry value_cmp (map keyed (xs ++ ys)) key row ≡ insert_entry value_cmp (map keyed xs) key row ++ map keyed ys
put_before key row [] ys above = put_first key row ys above
put_before key row (x ∷ xs) ys above = by (value_cmp key (key_of x)) (put_before key row xs ys above)
  where
    by : (o : Ordering) → insert_entry value_cmp (map keyed (xs ++ ys)) key row ≡ insert_entry value_cmp (map keyed xs) key row ++ map keyed ys → match_ordering o ((key, row) ∷ map keyed (x ∷ xs ++ ys)) ((key_of x, row) ∷ map keyed (xs ++ ys)) (keyed x ∷ insert_entry value_cmp (map keyed (xs ++ ys)) key row)
        ≡ match_ordering o ((key, row) ∷ map keyed (x ∷ xs)) ((key_of x, row) ∷ map keyed xs) (keyed x ∷ insert_entry value_cmp (map keyed xs) key row) ++ map keyed ys
    by Less rest = ap (λ (l : Keyed). (key, row) ∷ keyed x ∷ l) (keyed_both xs ys)
    by Equal rest = ap (λ (l : Keyed). (key_of x, row) ∷ l) (keyed_both xs ys)
    by Greater rest = ap (λ (l : Keyed). keyed x ∷ l) rest

put_past : (key : Value) (row : List Value) (xs ys : List (List Value)) → Below key xs → insert_entry value_cmp (map keyed (xs ++ ys)) key row ≡ map keyed xs ++ insert_entry value_cmp (map keyed ys) key row
put_past key row [] ys below = refl
put_past key row (x ∷ xs) ys below =
    ap (λ o. match_ordering o ((key, row) ∷ map keyed (x ∷ xs ++ ys)) ((key_of x, row) ∷ map keyed (xs ++ ys)) (keyed x ∷ insert_entry value_cmp (map keyed (xs ++ ys)) key row)) below.0
    ∙ ap (λ (l : Keyed). keyed x ∷ l) (put_past key row xs ys below.1)

pub put_in_place : (key : Value) (row : List Value) (blocks : List (List (List Value))) (at : ℕ) (d new : List (List Value)) → IsPlaceOf key blocks at → at < length blocks
    → map keyed new ≡ insert_entry value_cmp (map keyed (get_or blocks at d)) key row → entries_in (slice_set blocks at new) ≡ insert_entry value_cmp (entries_in blocks) key row
put_in_place key row [] at d new place within put = absurd (omega (arith, within))
put_in_place key row (block ∷ blocks) zero d new place within put =
    keyed_both new (rows_in blocks) ∙ ap (λ (l : Keyed). l ++ map keyed (rows_in blocks)) put ∙ sym (put_before key row block (rows_in blocks) place.1)
put_in_place key row (block ∷ blocks) (suc at) d new place within put =
    keyed_both block (rows_in (slice_set blocks at new))
    ∙ ap (λ (l : Keyed). map keyed block ++ l) (put_in_place key row blocks at d new (below_end key block (rows_in (take at blocks)) place.0, place.1) (omega (arith, within)) put)
    ∙ sym (put_past key row block (rows_in blocks) (below_front key block (rows_in (take at blocks)) place.0))

length_keyed : (rows : List (List Value)) → length (map keyed rows) ≡ length rows
length_keyed [] = refl
length_keyed (row ∷ rows) = ap suc (length_keyed rows)

some_put : (es : Keyed) (key : Value) (row : List Value) → 0 < length (insert_entry value_cmp es key row)
some_put [] key row = omega arith
some_put (e ∷ es) key row = by (value_cmp key e.0)
  where
    by : (o : Ordering) → 0 < length (match_ordering o ((key, row) ∷ e ∷ es) ((e.0, row) ∷ es) (e ∷ insert_entry value_cmp es key row))
    by Less = omega arith
    by Equal = omega arith
    by Greater = omega arith

filled_set : (blocks : List (List (List Value))) (at : ℕ) (new : List (List Value)) → AreFilled blocks → 0 < length new → AreFilled (slice_set blocks at new)
filled_set [] at new filled some = tt
filled_set (block ∷ blocks) zero new filled some = (some, filled.1)
filled_set (block ∷ blocks) (suc at) new filled some = (filled.0, filled_set blocks at new filled.1 some)

pub filled_put : (blocks : List (List (List Value))) (at : ℕ) (new : List (List Value)) (es : Keyed) (key : Value) (row : List Value) → AreFilled blocks → map keyed new ≡ insert_entry value_cmp es key row → AreFilled (slice_set blocks at new)
filled_put blocks at new es key row filled put =
    let some : 0 < length (map keyed new) = subst (λ (l : Keyed). 0 < length l) (sym put) (some_put es key row) in
    filled_set blocks at new filled (subst (λ n. 0 < n) (length_keyed new) some)

some_at : (blocks : List (List (List Value))) (at : ℕ) (d : List (List Value)) → AreFilled blocks → at < length blocks → 0 < length (get_or blocks at d)
some_at [] at d filled within = absurd (omega (arith, within))
some_at (block ∷ blocks) zero d filled within = filled.0
some_at (block ∷ blocks) (suc at) d filled within = some_at blocks at d filled.1 (omega (arith, within))

-- after a change of one block that may have failed
pub filled_after : {A E : Type 0} (r : Result A E) (blocks : List (List (List Value))) (at : ℕ) (old new : List (List Value)) (key : Value) (row : List Value) → AreFilled blocks → at < length blocks → old ≡ get_or blocks at old
    → OnOk r (map keyed new ≡ insert_entry value_cmp (map keyed old) key row) → OnErr r (new ≡ old) → AreFilled (slice_set blocks at new)
filled_after (Ok x) blocks at old new key row filled within is put same = filled_put blocks at new (map keyed old) key row filled put
filled_after (Err e) blocks at old new key row filled within is put same = filled_set blocks at new filled (subst (λ (l : List (List Value)). 0 < length l) (sym (same ∙ is)) (some_at blocks at old filled within))

pub none_rise : KeysRise []
unfolding IsStrictlySortedBy
none_rise = tt

pub one_rises : (rows : List (List Value)) (row : List Value) → rows ≡ row ∷ [] → KeysRise (map keyed rows)
unfolding IsStrictlySortedBy
one_rises rows row is = subst (λ (l : List (List Value)). KeysRise (map keyed l)) (sym is) (tt, tt)

-- ---- a row that is taken away

not_out : (key : Value) (rows : List (List Value)) → Below key rows → without key rows ≡ rows
not_out key [] below = refl
not_out key (row ∷ rows) below = kept_one key row rows (ap is_eq below.0) ∙ ap (λ l. row ∷ l) (not_out key rows below.1)

without_both : (key : Value) (xs ys : List (List Value)) → without key (xs ++ ys) ≡ without key xs ++ without key ys
without_both key xs ys = filter-append (λ row. not (is_eq (value_cmp key (key_of row)))) xs ys

pub taken_in_place : (key : Value) (blocks : List (List (List Value))) (at : ℕ) (d new : List (List Value)) → IsPlaceOf key blocks at → at < length blocks → new ≡ without key (get_or blocks at d) → rows_in (slice_set blocks at new) ≡ without key (rows_in blocks)
taken_in_place key [] at d new place within taken = absurd (omega (arith, within))
taken_in_place key (block ∷ blocks) zero d new place within taken =
    ap (λ l. l ++ rows_in blocks) taken ∙ ap (λ l. without key block ++ l) (sym (none_out key (rows_in blocks) place.1)) ∙ sym (without_both key block (rows_in blocks))
taken_in_place key (block ∷ blocks) (suc at) d new place within taken =
    ap (λ l. block ++ l) (taken_in_place key blocks at d new (below_end key block (rows_in (take at blocks)) place.0, place.1) (omega (arith, within)) taken)
    ∙ ap (λ l. l ++ without key (rows_in blocks)) (sym (not_out key block (below_front key block (rows_in (take at blocks)) place.0)))
    ∙ sym (without_both key block (rows_in blocks))

-- an empty block is left out
pub rows_left : (blocks : List (List (List Value))) (at : ℕ) (new : List (List Value)) → new ≡ [] → rows_in (take at (slice_set blocks at new) ++ drop (suc at) (slice_set blocks at new)) ≡ rows_in (slice_set blocks at new)
rows_left [] zero new none = refl
rows_left [] (suc at) new none = refl
rows_left (block ∷ blocks) zero new none = sym (ap (λ l. l ++ rows_in blocks) none)
rows_left (block ∷ blocks) (suc at) new none = ap (λ l. block ++ l) (rows_left blocks at new none)

set_at : (blocks : List (List (List Value))) (at : ℕ) (new d : List (List Value)) → at < length blocks → get_or (slice_set blocks at new) at d ≡ new
set_at [] at new d within = absurd (omega (arith, within))
set_at (block ∷ blocks) zero new d within = refl
set_at (block ∷ blocks) (suc at) new d within = set_at blocks at new d (omega (arith, within))

-- the block that was found empty
pub empty_there : (blocks : List (List (List Value))) (at : ℕ) (new seen rows : List (List Value)) → at < length blocks → seen ≡ get_or (slice_set blocks at new) at seen → rows ≡ seen → true ≡ (length rows == 0) → new ≡ []
empty_there blocks at new seen rows within there same empty = sym (set_at blocks at new seen within) ∙ sym there ∙ sym same ∙ none rows empty
  where
    none : (l : List (List Value)) → true ≡ (length l == 0) → l ≡ []
    none [] h = refl
    none (x ∷ l) h = let zero_there = eqb-true (length (x ∷ l)) 0 (sym h) in absurd (omega (arith, zero_there))

-- ---- what is found once a row was taken away

abbrev others : Value → Keyed → Keyed
others key es = filter (λ e. not (is_eq (value_cmp key e.0))) es

keyed_without : (key : Value) (rows : List (List Value)) → map keyed (without key rows) ≡ others key (map keyed rows)
keyed_without key [] = refl
keyed_without key (row ∷ rows) = by (is_eq (value_cmp key (key_of row))) (keyed_without key rows)
  where
    by : (b : Bool) → map keyed (without key rows) ≡ others key (map keyed rows) → map keyed (cond (not b) (row ∷ without key rows) (without key rows)) ≡ cond (not b) (keyed row ∷ others key (map keyed rows)) (others key (map keyed rows))
    by true rest = rest
    by false rest = ap (λ (l : Keyed). keyed row ∷ l) rest

found_left : (es : Keyed) (key q : Value) → keyed_of (others key es) q ≡ cond (is_eq (value_cmp key q)) None (keyed_of es q)
found_left [] key q = never (is_eq (value_cmp key q))
  where
    never : (b : Bool) → ◌≡◌ {A = Option (List Value)} None (cond b None None)
    never true = refl
    never false = refl
found_left (e ∷ es) key q = by (is_eq (value_cmp key e.0)) (is_eq (value_cmp key q)) refl refl (found_left es key q)
  where
    by : (b c : Bool) → is_eq (value_cmp key e.0) ≡ b → is_eq (value_cmp key q) ≡ c → keyed_of (others key es) q ≡ cond c None (keyed_of es q)
        → keyed_of (cond (not b) (e ∷ others key es) (others key es)) q ≡ cond c None (keyed_of (e ∷ es) q)
    by true true at here rest = rest
    by true false at here rest =
        let other : is_eq (value_cmp q e.0) ≡ false = ap (λ (k : Value). is_eq (value_cmp q k)) (sym (keys_equal key e.0 at)) ∙ eq_turned q key ∙ here in
        rest ∙ sym (ap (λ b. cond b (Some e.1) (keyed_of es q)) other)
    by false true at here rest =
        let other : is_eq (value_cmp q e.0) ≡ false = ap (λ (k : Value). is_eq (value_cmp k e.0)) (sym (keys_equal key q here)) ∙ at in
        ap (λ b. cond b (Some e.1) (keyed_of (others key es) q)) other ∙ rest
    by false false at here rest = ap (λ o. cond (is_eq (value_cmp q e.0)) (Some e.1) o) rest

pub taken_found : (rows : List (List Value)) (key q : Value) → keyed_of (map keyed (without key rows)) q ≡ cond (is_eq (value_cmp key q)) None (keyed_of (map keyed rows) q)
taken_found rows key q = ap (λ (es : Keyed). keyed_of es q) (keyed_without key rows) ∙ found_left (map keyed rows) key q

pub taken_rises : (rows : List (List Value)) (key : Value) → KeysRise (map keyed rows) → KeysRise (map keyed (without key rows))
taken_rises rows key rise = subst KeysRise (sym (keyed_without key rows)) (rise_filter (λ e. not (is_eq (value_cmp key e.0))) (map keyed rows) rise)

-- rows that rise do so after a change that may have failed
pub put_kept : {A E : Type 0} (r : Result A E) (old new : List (List Value)) (key : Value) (row : List Value) → KeysRise (map keyed old) → OnOk r (map keyed new ≡ insert_entry value_cmp (map keyed old) key row) → OnErr r (new ≡ old) → KeysRise (map keyed new)
put_kept (Ok x) old new key row rise put same = subst KeysRise (sym put) (put_rises (map keyed old) key row rise)
put_kept (Err e) old new key row rise put same = subst (λ (l : List (List Value)). KeysRise (map keyed l)) (sym same) rise

-- ---- the rows between two ends

pub between_both : (lo hi : Bound Value) (xs ys : List (List Value)) → entries_between value_cmp lo hi (map keyed (xs ++ ys)) ≡ entries_between value_cmp lo hi (map keyed xs) ++ entries_between value_cmp lo hi (map keyed ys)
between_both lo hi xs ys = ap (entries_between value_cmp lo hi) (keyed_both xs ys) ∙ filter-append _ (map keyed xs) (map keyed ys)

none_from : (lo hi : Bound Value) (es : Keyed) → AllByRecursion (λ k. is_from_start value_cmp lo k ≡ false) (keys_of es) → entries_between value_cmp lo hi es ≡ []
none_from lo hi [] out = refl
none_from lo hi (e ∷ es) out = ap (λ b. cond (b && not (is_past_end value_cmp hi e.0)) (e ∷ entries_between value_cmp lo hi es) (entries_between value_cmp lo hi es)) out.0 ∙ none_from lo hi es out.1

none_up_to : (lo hi : Bound Value) (es : Keyed) → AllByRecursion (λ k. is_past_end value_cmp hi k ≡ true) (keys_of es) → entries_between value_cmp lo hi es ≡ []
none_up_to lo hi [] out = refl
none_up_to lo hi (e ∷ es) out =
    ap (λ b. cond (is_from_start value_cmp lo e.0 && not b) (e ∷ entries_between value_cmp lo hi es) (entries_between value_cmp lo hi es)) out.0
    ∙ ap (λ b. cond b (e ∷ entries_between value_cmp lo hi es) (entries_between value_cmp lo hi es)) (and_right (is_from_start value_cmp lo e.0) false refl)
    ∙ none_up_to lo hi es out.1

each : (P Q : Value → Type 0) → ((k : Value) → P k → Q k) → (ks : List Value) → AllByRecursion P ks → AllByRecursion Q ks
each P Q weaker [] all = tt
each P Q weaker (k ∷ ks) all = (weaker k all.0, each P Q weaker ks all.1)

pub none_from_key : (key : Value) (blocks : List (List (List Value))) (at : ℕ) → IsPlaceOf key blocks at → (hi : Bound Value) → entries_between value_cmp (Included key) hi (entries_in (take at blocks)) ≡ []
none_from_key key blocks at place hi = none_from (Included key) hi (entries_in (take at blocks)) (each _ _ (λ k below. ap is_le below) (keys_of (entries_in (take at blocks))) place.0)

pub none_behind_key : (key : Value) (blocks : List (List (List Value))) (at : ℕ) → IsPlaceOf key blocks at → (hi : Bound Value) → entries_between value_cmp (Excluded key) hi (entries_in (take at blocks)) ≡ []
none_behind_key key blocks at place hi = none_from (Excluded key) hi (entries_in (take at blocks)) (each _ _ (λ k below. ap is_lt below) (keys_of (entries_in (take at blocks))) place.0)

pub none_up_to_key : (key : Value) (blocks : List (List (List Value))) (at : ℕ) → IsPlaceOf key blocks at → (lo : Bound Value) → entries_between value_cmp lo (Included key) (entries_in (drop (at + 1) blocks)) ≡ []
none_up_to_key key blocks at place lo =
    let one : suc at ≡ at + 1 = omega arith in
    ap (λ (n : ℕ). entries_between value_cmp lo (Included key) (entries_in (drop n blocks))) (sym one)
    ∙ none_up_to lo (Included key) (entries_in (drop (suc at) blocks)) (each _ _ (λ k above. ap is_lt above) (keys_of (entries_in (drop (suc at) blocks))) place.1)

pub none_before_key : (key : Value) (blocks : List (List (List Value))) (at : ℕ) → IsPlaceOf key blocks at → (lo : Bound Value) → entries_between value_cmp lo (Excluded key) (entries_in (drop (at + 1) blocks)) ≡ []
none_before_key key blocks at place lo =
    let one : suc at ≡ at + 1 = omega arith in
    ap (λ (n : ℕ). entries_between value_cmp lo (Excluded key) (entries_in (drop n blocks))) (sym one)
    ∙ none_up_to lo (Excluded key) (entries_in (drop (suc at) blocks)) (each _ _ (λ k above. ap is_le above) (keys_of (entries_in (drop (suc at) blocks))) place.1)

none_of_both : (xs ys : Keyed) → xs ++ ys ≡ [] → (xs ≡ []) × (ys ≡ [])
none_of_both [] ys none = (refl, none)
none_of_both (x ∷ xs) ys none = cc

nothing_left : (n : ℕ) → ◌≡◌ {A = List (List (List Value))} (drop n []) []
nothing_left zero = refl
nothing_left (suc n) = refl

-- the blocks outside two ends may be left out
pub middle_is : (lo hi : Bound Value) (blocks : List (List (List Value))) (start end : ℕ) → entries_between value_cmp lo hi (entries_in (take start blocks)) ≡ [] → entries_between value_cmp lo hi (entries_in (drop end blocks)) ≡ []
    → entries_between value_cmp lo hi (entries_in (drop start (take end blocks))) ≡ entries_between value_cmp lo hi (entries_in blocks)
middle_is lo hi [] start zero front behind = ap (λ (l : List (List (List Value))). entries_between value_cmp lo hi (entries_in l)) (nothing_left start)
middle_is lo hi [] start (suc end) front behind = ap (λ (l : List (List (List Value))). entries_between value_cmp lo hi (entries_in l)) (nothing_left start)
middle_is lo hi (block ∷ blocks) start zero front behind = ap (λ (l : List (List (List Value))). entries_between value_cmp lo hi (entries_in l)) (nothing_left start) ∙ sym behind
middle_is lo hi (block ∷ blocks) zero (suc end) front behind =
    between_both lo hi block (rows_in (take end blocks))
    ∙ ap (λ (l : Keyed). entries_between value_cmp lo hi (map keyed block) ++ l) (middle_is lo hi blocks zero end refl behind)
    ∙ sym (between_both lo hi block (rows_in blocks))
middle_is lo hi (block ∷ blocks) (suc start) (suc end) front behind =
    let none = none_of_both (entries_between value_cmp lo hi (map keyed block)) (entries_between value_cmp lo hi (entries_in (take start blocks))) (sym (between_both lo hi block (rows_in (take start blocks))) ∙ front) in
    middle_is lo hi blocks start end none.1 behind
    ∙ sym (between_both lo hi block (rows_in blocks) ∙ ap (λ (l : Keyed). l ++ entries_between value_cmp lo hi (entries_in blocks)) none.0)

pub middle_none : (lo hi : Bound Value) (blocks : List (List (List Value))) (start end : ℕ) → entries_between value_cmp lo hi (entries_in (take start blocks)) ≡ [] → entries_between value_cmp lo hi (entries_in (drop end blocks)) ≡ [] → end ≤ start
    → [] ≡ entries_between value_cmp lo hi (entries_in blocks)
middle_none lo hi blocks start end front behind over =
    let short = length-take end blocks in
    sym (ap (λ (l : List (List (List Value))). entries_between value_cmp lo hi (entries_in l)) (drop_all start (take end blocks) (omega (arith, short, over)))) ∙ middle_is lo hi blocks start end front behind

-- ---- one block made two

pub divided : (blocks : List (List (List Value))) (at : ℕ) (seen front behind : List (List Value)) → at < length blocks → seen ≡ get_or blocks at seen → front ++ behind ≡ seen
    → rows_in (slice_set (take (at + 1) blocks ++ behind ∷ drop (at + 1) blocks) at front) ≡ rows_in blocks
divided blocks at seen front behind within is halves =
    let one : suc at ≡ at + 1 = omega arith in
    ap (λ (n : ℕ). rows_in (slice_set (take n blocks ++ behind ∷ drop n blocks) at front)) (sym one) ∙ by blocks at within is
  where
    by : (blocks : List (List (List Value))) (at : ℕ) → at < length blocks → seen ≡ get_or blocks at seen → rows_in (slice_set (take (suc at) blocks ++ behind ∷ drop (suc at) blocks) at front) ≡ rows_in blocks
    by [] at within is = absurd (omega (arith, within))
    by (block ∷ blocks) zero within is = sym (append_assoc front behind (rows_in blocks)) ∙ ap (λ l. l ++ rows_in blocks) (halves ∙ is)
    by (block ∷ blocks) (suc at) within is = ap (λ l. block ++ l) (by blocks at (omega (arith, within)) is)

pub changed_kept : {A E : Type 0} (r : Result A E) (old new : List (List (List Value))) (key : Value) (row : List Value) → KeysRise (entries_in old) → AreFilled new
    → OnOk r (entries_in new ≡ insert_entry value_cmp (entries_in old) key row) → OnErr r (rows_in new ≡ rows_in old) → AreFilled new × KeysRise (entries_in new)
changed_kept (Ok x) old new key row rise filled put same = (filled, subst KeysRise (sym put) (put_rises (entries_in old) key row rise))
changed_kept (Err e) old new key row rise filled put same = (filled, subst (λ (l : List (List Value)). KeysRise (map keyed l)) (sym same) rise)

pub left_kept : {A E : Type 0} (r : Result A E) (old new : List (List (List Value))) (key : Value) → KeysRise (entries_in old) → AreFilled new
    → OnOk r (rows_in new ≡ without key (rows_in old)) → OnErr r (rows_in new ≡ rows_in old) → AreFilled new × KeysRise (entries_in new)
left_kept (Ok x) old new key rise filled taken same = (filled, subst (λ (l : List (List Value)). KeysRise (map keyed l)) (sym taken) (taken_rises (rows_in old) key rise))
left_kept (Err e) old new key rise filled taken same = (filled, subst (λ (l : List (List Value)). KeysRise (map keyed l)) (sym same) rise)

-- no rows are in no block
pub none_in : (blocks : List (List (List Value))) → AreFilled blocks → (length blocks == 0) ≡ (length (entries_in blocks) == 0)
none_in [] filled = refl
none_in ([] ∷ blocks) filled = absurd (omega (arith, filled.0))
none_in ((row ∷ rows) ∷ blocks) filled = grind (arith, nat_tests)

-- what is found at a key after a change, by what was seen before
pub put_seen : (old new seen : Keyed) (key : Value) (row own : List Value) (q : Value) → new ≡ insert_entry value_cmp old key row → old ≡ seen → row ≡ own → keyed_of new q ≡ cond (is_eq (value_cmp key q)) (Some own) (keyed_of seen q)
put_seen old new seen key row own q put same is =
    ap (λ (es : Keyed). keyed_of es q) put ∙ put_found old key row q
    ∙ ap (λ (r : List Value). cond (is_eq (value_cmp key q)) (Some r) (keyed_of old q)) is
    ∙ ap (λ (es : Keyed). cond (is_eq (value_cmp key q)) (Some own) (keyed_of es q)) same

pub taken_seen : (old new : List (List Value)) (seen : Keyed) (key q : Value) → new ≡ without key old → map keyed old ≡ seen → keyed_of (map keyed new) q ≡ cond (is_eq (value_cmp key q)) None (keyed_of seen q)
taken_seen old new seen key q taken same =
    ap (λ (l : List (List Value)). keyed_of (map keyed l) q) taken ∙ taken_found old key q
    ∙ ap (λ (es : Keyed). cond (is_eq (value_cmp key q)) None (keyed_of es q)) same

-- ---- blocks one after the other

rows_push : (blocks : List (List (List Value))) (block : List (List Value)) → rows_in (blocks ++ block ∷ []) ≡ rows_in blocks ++ block
rows_push [] block = append-nil block
rows_push (first ∷ blocks) block = ap (λ l. first ++ l) (rows_push blocks block) ∙ sym (append_assoc first (rows_in blocks) block)

filled_push : (blocks : List (List (List Value))) (block : List (List Value)) → AreFilled blocks → 0 < length block → AreFilled (blocks ++ block ∷ [])
filled_push [] block filled some = (some, tt)
filled_push (first ∷ blocks) block filled some = (filled.0, filled_push blocks block filled.1 some)

pub part_rises : (all front part rest : List (List Value)) → front ++ (part ++ rest) ≡ all → KeysRise (map keyed all) → KeysRise (map keyed part)
part_rises all front part rest whole rise = rises_front part rest (rises_end front (part ++ rest) (subst (λ (l : List (List Value)). KeysRise (map keyed l)) (sym whole) rise))

module _ (all : List (List Value)) (made : List (List (List Value))) (part left rest : List (List Value)) (row own : List Value) (pushed : List (List Value)) (whole : rows_in made ++ (part ++ left) ≡ all) (next : left ≡ row ∷ rest) (is : own ≡ row) (push : pushed ≡ part ++ own ∷ []) where
  pub one_more : rows_in made ++ (pushed ++ rest) ≡ all
  one_more =
      ap (λ (l : List (List Value)). rows_in made ++ (l ++ rest)) push
      ∙ ap (λ l. rows_in made ++ l) (append_assoc part (own ∷ []) rest)
      ∙ ap (λ (r : List Value). rows_in made ++ (part ++ r ∷ rest)) is
      ∙ ap (λ (l : List (List Value)). rows_in made ++ (part ++ l)) (sym next) ∙ whole

  some_pushed : 0 < length pushed
  some_pushed = subst (λ (l : List (List Value)). 0 < length l) (sym push) (longer part)
    where
      longer : (l : List (List Value)) → 0 < length (l ++ own ∷ [])
      longer [] = omega arith
      longer (x ∷ l) = omega arith

  pub full_closed : (new : List (List (List Value))) (block after : List (List Value)) → block ≡ pushed → new ≡ made ++ block ∷ [] → after ≡ [] → AreFilled made → (rows_in new ++ (after ++ rest) ≡ all) × AreFilled new
  full_closed new block after same added none filled = (
    ap (λ (l : List (List (List Value))). rows_in l ++ (after ++ rest)) added
        ∙ ap (λ (l : List (List Value)). rows_in (made ++ block ∷ []) ++ (l ++ rest)) none
        ∙ ap (λ l. l ++ rest) (rows_push made block ∙ ap (λ l. rows_in made ++ l) same)
        ∙ append_assoc (rows_in made) pushed rest ∙ one_more,
    subst AreFilled (sym added) (filled_push made block filled (subst (λ (l : List (List Value)). 0 < length l) (sym same) some_pushed)),
  )

pub closed : (made new : List (List (List Value))) (block rows : List (List Value)) → block ≡ rows → new ≡ made ++ block ∷ [] → rows_in new ≡ rows_in made ++ rows
closed made new block rows same added = ap rows_in added ∙ rows_push made block ∙ ap (λ l. rows_in made ++ l) same

pub filled_closed : (made new : List (List (List Value))) (block rows : List (List Value)) → block ≡ rows → new ≡ made ++ block ∷ [] → false ≡ (length rows == 0) → AreFilled made → AreFilled new
filled_closed made new block rows same added some filled = subst AreFilled (sym added) (filled_push made block filled (subst (λ (l : List (List Value)). 0 < length l) (sym same) (longer rows some)))
  where
    longer : (l : List (List Value)) → false ≡ (length l == 0) → 0 < length l
    longer [] h = let never : false ≡ true = h in cc
    longer (x ∷ l) h = omega arith

none_found : (es : Keyed) (key : Value) → (length es == 0) ≡ true → keyed_of es key ≡ None
none_found [] key none = refl
none_found (e ∷ es) key none = let zero_there = eqb-true (length (e ∷ es)) 0 none in absurd (omega (arith, zero_there))

-- rows that are all there are
pub filled_rise : (seen : Keyed) (given rows : List (List Value)) → given ≡ rows → true ≡ ((length seen == 0) && rise_behind None given) → KeysRise (map keyed rows)
filled_rise seen given rows same filled = rises_if rows (sym (ap (rise_behind None) same) ∙ (both_true (length seen == 0) (rise_behind None given) (sym filled)).1)

pub filled_found : (seen : Keyed) (given rows : List (List Value)) (new : Keyed) → given ≡ rows → true ≡ ((length seen == 0) && rise_behind None given) → new ≡ map keyed rows
    → (q : Value) → keyed_of new q ≡ update_all (eq_by_cmp value_cmp) (keyed_of seen) (map keyed rows) q
filled_found seen given rows new same filled is q =
    ap (λ (es : Keyed). keyed_of es q) is ∙ found_of (map keyed rows) q (filled_rise seen given rows same filled)
    ∙ same_updates (λ _. None) (keyed_of seen) (λ p. sym (none_found seen p (both_true (length seen == 0) (rise_behind None given) (sym filled)).0)) (map keyed rows) q
