-- What is found by a walk over an index.
use Rattle.std.proofs.Common.{arith, ◌≡◌, ◌⊎◌, inl, inr, ℕ, Bool, true, false, cond, List, [], ◌∷◌, length, ◌<◌, ◌≤◌, refl, sym, ◌∙◌, ap, subst}
use Rattle.std.specs.Prelude.{Option, Some, None, not, ◌&&◌, ◌||◌, filter, slice_get}
use Rattle.std.specs.List.{AllByRecursion, list_any}
use Rattle.std.specs.declared.cmp.Ordering.{Ordering}
use Rattle.std.specs.declared.cmp.Ordering.TheVariants.{Less, Equal, Greater}
use Rattle.std.specs.Ordering.{is_eq, is_gt, ordering_then, ordering_reverse}
use Rattle.std.specs.Option.{option_or}
use Rattle.std.specs.Range.Bound.{IsForward}
use Rattle.std.specs.BTreeMap.{BTreeMap, is_at}
use Rattle.std.specs.BTreeMap.Range.{range_contains, IsLeBy, IsLtBy}
use Rattle.std.proofs.lemmas.Bool.{cases_Bool}
use Rattle.std.proofs.lemmas.Cmp.{tied_itself}
use Rattle.std.proofs.lemmas.Map.Entries.{option_filter}
use Rattle.std.proofs.lemmas.Map.Views.{any-filter_same}
use Rattle.svc_values.specs.declared.statement.Test.{Test}
use Rattle.svc_values.specs.declared.statement.Test.TheVariants as test
use Rattle.svc_values.specs.declared.value.Value.{Value}
use Rattle.svc_values.specs.meaning.Order.{value_cmp}
use Rattle.svc_values.specs.meaning.Tests.{meets, value_meets}
use Rattle.svc_values.proofs.Offered.{value_cmp_total, exact_values}
use Rattle.table_store.specs.declared.column_index.ColumnIndex.{ColumnIndex}
use Rattle.table_store.specs.declared.column_index.Pair.{Pair}
use Rattle.table_store.specs.declared.column_index.Spot.{Spot}
use Rattle.table_store.specs.declared.column_index.Spot.TheVariants as spot
use Rattle.table_store.specs.Indexes.{ends, has_pair, is_spot_of, is_value, pair, pair_cmp, spot_cmp, value_in, IsIndexOf}
use Rattle.table_store.specs.Rows.{Keyed, KeysRise, keyed_of}
use Rattle.table_store.specs.Selection.{apart_from, at_most_32, is_among, meeting}
use Rattle.table_store.proofs.Maps.{keys_equal, keys_equal_if}
use Rattle.table_store.proofs.Picked.{rise_filter, apart_at, meeting_at, no_longer, over_32, upto_32, same_keyed}
use Rattle.table_store.proofs.Takes.{with_pair}

-- ---- the ends of a walk

pub forward : (t : Test) (than : Value) → IsForward (IsLeBy pair_cmp) (IsLtBy pair_cmp) (ends t than).0 (ends t than).1
forward test.Eq than = ap (λ o. is_gt (ordering_then o Less)) (tied_itself value_cmp_total than)
forward test.Lt than = tt
forward test.Ge than = tt

between : (t : Test) (than v k : Value) (o : Ordering) → value_cmp than v ≡ o → value_cmp v than ≡ ordering_reverse o
    → range_contains pair_cmp (ends t than).0 (ends t than).1 (pair v k) ≡ value_meets t than (Some v)
between test.Eq than v k Less e r = rw (e, r) refl
between test.Eq than v k Equal e r = rw (e, r) refl
between test.Eq than v k Greater e r = rw (e, r) refl
between test.Lt than v k Less e r = rw (e, r) refl
between test.Lt than v k Equal e r = rw (e, r) refl
between test.Lt than v k Greater e r = rw (e, r) refl
between test.Ge than v k Less e r = rw (e, r) refl
between test.Ge than v k Equal e r = rw (e, r) refl
between test.Ge than v k Greater e r = rw (e, r) refl

-- between them are exactly the pairs whose values meet the test
pub between_meets : (t : Test) (than v k : Value) → range_contains pair_cmp (ends t than).0 (ends t than).1 (pair v k) ≡ value_meets t than (Some v)
between_meets t than v k = between t than v k (value_cmp than v) refl (value_cmp_total.antisymm v than)

-- ---- pairs that compare as equal

exact_spots : (a b : Spot) → spot_cmp a b ≡ Equal → a ≡ b
exact_spots spot.Before spot.Before h = refl
exact_spots spot.Before (spot.At k) h = cc
exact_spots spot.Before spot.Behind h = cc
exact_spots (spot.At k) spot.Before h = cc
exact_spots (spot.At k) (spot.At l) h = ap spot.At (exact_values k l h)
exact_spots (spot.At k) spot.Behind h = cc
exact_spots spot.Behind spot.Before h = cc
exact_spots spot.Behind (spot.At k) h = cc
exact_spots spot.Behind spot.Behind h = refl

parts_equal : (o p : Ordering) → is_eq (ordering_then o p) ≡ true → (o ≡ Equal) × (p ≡ Equal)
parts_equal Less p h = cc
parts_equal Equal Less h = cc
parts_equal Equal Equal h = (refl, refl)
parts_equal Equal Greater h = cc
parts_equal Greater p h = cc

exact_pairs : (a b : Pair) → is_eq (pair_cmp a b) ≡ true → a ≡ b
exact_pairs a b h =
    let parts = parts_equal (value_cmp a.value b.value) (spot_cmp a.spot b.spot) h in
    let values : a.value ≡ b.value = exact_values a.value b.value parts.0 in
    let spots : a.spot ≡ b.spot = exact_spots a.spot b.spot parts.1 in
    λ i. record { value = values i; spot = spots i }

spot_itself : (s : Spot) → spot_cmp s s ≡ Equal
spot_itself spot.Before = refl
spot_itself (spot.At k) = tied_itself value_cmp_total k
spot_itself spot.Behind = refl

pair_itself : (p : Pair) → is_eq (pair_cmp p p) ≡ true
pair_itself p = rw (tied_itself value_cmp_total p.value, spot_itself p.spot) refl

any_here : (b : Bool) → b ≡ true → (c : Bool) → (b || c) ≡ true
any_here true h c = refl
any_here false h c = cc

any_there : (b c : Bool) → c ≡ true → (b || c) ≡ true
any_there true c h = refl
any_there false c h = h

-- what holds of each pair that is found in a list holds of all of it
all_found : (P : Pair → Type 0) (pairs : List Pair) → ((p : Pair) → list_any (is_at (pair_cmp p)) pairs ≡ true → P p) → AllByRecursion P pairs
all_found P [] holds = tt
all_found P (p ∷ pairs) holds = (
  holds p (any_here (is_at (pair_cmp p) p) (pair_itself p) (list_any (is_at (pair_cmp p)) pairs)),
  all_found P pairs (λ q there. holds q (any_there (is_at (pair_cmp q) p) (list_any (is_at (pair_cmp q)) pairs) there)),
)

neither : (b c : Bool) → (b || c) ≡ false → (b ≡ false) × (c ≡ false)
neither true c h = cc
neither false c h = (refl, h)

-- a pair that stands in a list has its key there
key_there : (pairs : List Pair) (v k : Value) → list_any (λ p. is_spot_of p.spot k) pairs ≡ false → has_pair pairs v k ≡ false
key_there [] v k none = refl
key_there (p ∷ pairs) v k none =
    let parts = neither (is_spot_of p.spot k) (list_any (λ q. is_spot_of q.spot k) pairs) none in
    not_at (cases_Bool (is_at (pair_cmp (pair v k)) p)) parts.0 (key_there pairs v k parts.1)
  where
    not_at : (is_at (pair_cmp (pair v k)) p ≡ true) ⊎ (is_at (pair_cmp (pair v k)) p ≡ false) → is_spot_of p.spot k ≡ false → has_pair pairs v k ≡ false → (is_at (pair_cmp (pair v k)) p || has_pair pairs v k) ≡ false
    not_at (inl here) away rest =
        let same : pair v k ≡ p = exact_pairs (pair v k) p here in
        let at : is_spot_of p.spot k ≡ true = subst (λ (q : Pair). is_spot_of q.spot k ≡ true) same (keys_equal_if k k refl) in
        let never : true ≡ false = sym at ∙ away in cc
    not_at (inr other) away rest = rw (other, rest) refl

both : (a b : Bool) → (a && b) ≡ true → (a ≡ true) × (b ≡ true)
both true b h = (refl, h)
both false b h = cc

-- ---- what is found

module _ (rows : Keyed) (but : BTreeMap Value ℕ) (column : ℕ) (t : Test) (than : Value) where
  abbrev pub wanted : Keyed
  wanted = apart_from but (meeting column t than rows)

  -- the row of the pair's key, if there is one, meets the test
  abbrev pub Met : Pair → Type 0
  Met p = (q : Value) → is_spot_of p.spot q ≡ true → keyed_of (meeting column t than rows) q ≡ keyed_of rows q

  -- what is found is wanted, and what is wanted is found or has its key among the pairs that are
  -- left
  pub record WalkedTo (left : List Pair) (found : Keyed) : Type 0 where
    pub rise : KeysRise rows
    pub part : (q : Value) (row : List Value) → keyed_of found q ≡ Some row → keyed_of wanted q ≡ Some row
    pub whole : (q : Value) → list_any (λ p. is_spot_of p.spot q) left ≡ false → keyed_of found q ≡ keyed_of wanted q
    pub met : AllByRecursion Met left

  -- before the first pair
  module _ (index : ColumnIndex) (left : List Pair) (rise : KeysRise rows) (indexed : IsIndexOf (keyed_of rows) index) (of_column : index.column ≡ column)
      (walk : left ≡ filter (λ p. range_contains pair_cmp (ends t than).0 (ends t than).1 p) index.pairs.keys) where
    in_walk : (p : Pair) → list_any (is_at (pair_cmp p)) left ≡ (range_contains pair_cmp (ends t than).0 (ends t than).1 p && list_any (is_at (pair_cmp p)) index.pairs.keys)
    in_walk p =
        ap (λ ps. list_any (is_at (pair_cmp p)) ps) walk
        ∙ any-filter_same (is_at (pair_cmp p)) (λ k. range_contains pair_cmp (ends t than).0 (ends t than).1 k) (range_contains pair_cmp (ends t than).0 (ends t than).1 p)
        (λ k same. ap (λ r. range_contains pair_cmp (ends t than).0 (ends t than).1 r) (sym (exact_pairs p k same))) index.pairs.keys

    meets_there : (v : Value) (row : Option (List Value)) → is_value (value_in row column) v ≡ true → value_meets t than (Some v) ≡ true → option_filter (λ r. value_meets t than (slice_get r column)) row ≡ row
    meets_there v None has meets = cc
    meets_there v (Some row) has meets = by_value (slice_get row column) refl has
      where
        by_value : (w : Option Value) → slice_get row column ≡ w → is_value w v ≡ true → option_filter (λ r. value_meets t than (slice_get r column)) (Some row) ≡ Some row
        by_value None e h = cc
        by_value (Some w) e h =
            let passes : value_meets t than (slice_get row column) ≡ true = ap (value_meets t than) (e ∙ ap (λ u. Some u) (keys_equal w v h)) ∙ meets in rw passes refl

    met_at : (v : Value) (s : Spot) → list_any (is_at (pair_cmp (record { value = v; spot = s }))) left ≡ true → Met (record { value = v; spot = s })
    met_at v spot.Before there q at = cc
    met_at v (spot.At k) there q at =
        let parts = both (range_contains pair_cmp (ends t than).0 (ends t than).1 (pair v k)) (has_pair index.pairs.keys v k) (sym (in_walk (pair v k)) ∙ there) in
        let same : k ≡ q = keys_equal k q at in
        let has : is_value (value_in (keyed_of rows q) column) v ≡ true =
        ap (λ c. is_value (value_in (keyed_of rows q) c) v) (sym of_column) ∙ sym (indexed v q) ∙ ap (has_pair index.pairs.keys v) (sym same) ∙ parts.1 in
        meeting_at column t than rows q rise ∙ meets_there v (keyed_of rows q) has (sym (between_meets t than v k) ∙ parts.0)
    met_at v spot.Behind there q at = cc

    none_wanted : (q : Value) → list_any (λ p. is_spot_of p.spot q) left ≡ false → keyed_of (meeting column t than rows) q ≡ None
    none_wanted q none = meeting_at column t than rows q rise ∙ by_row (keyed_of rows q) refl
      where
        by_value : (row : List Value) (w : Option Value) → keyed_of rows q ≡ Some row → slice_get row column ≡ w → value_meets t than w ≡ true → ⊥
        by_value row None h e meets = cc
        by_value row (Some w) h e meets =
            let stands : has_pair index.pairs.keys w q ≡ true =
            indexed w q ∙ ap (λ c. is_value (value_in (keyed_of rows q) c) w) of_column ∙ ap (λ r. is_value (value_in r column) w) h ∙ ap (λ u. is_value u w) e ∙ keys_equal_if w w refl in
            let there : has_pair left w q ≡ true = in_walk (pair w q) ∙ rw (between_meets t than w q, meets, stands) refl in
            let never : true ≡ false = sym there ∙ key_there left w q none in cc

        by_test : (row : List Value) (b : Bool) → keyed_of rows q ≡ Some row → value_meets t than (slice_get row column) ≡ b → cond b (Some row) None ≡ None
        by_test row true h e = absurd (by_value row (slice_get row column) h refl e)
        by_test row false h e = refl

        by_row : (row : Option (List Value)) → keyed_of rows q ≡ row → option_filter (λ r. value_meets t than (slice_get r column)) row ≡ None
        by_row None h = refl
        by_row (Some row) h = by_test row (value_meets t than (slice_get row column)) h refl

    pub walk_begins : (found : Keyed) → found ≡ [] → WalkedTo left found
    walk_begins found empty = record {
      rise = rise;
      part = λ q row h. let none : None ≡ Some row = sym (ap (λ (es : Keyed). keyed_of es q) empty) ∙ h in cc;
      whole = λ q none. ap (λ (es : Keyed). keyed_of es q) empty ∙ sym (apart_at but (meeting column t than rows) q ∙ same_none (not (is_among but q)) (keyed_of (meeting column t than rows) q) (none_wanted q none));
      met = all_found Met left (λ p there. met_at p.value p.spot there);
    }
      where
        same_none : (b : Bool) (o : Option (List Value)) → o ≡ None → cond b o None ≡ None
        same_none true o h = h
        same_none false o h = refl

  -- one pair more
  module _ (left rest : List Pair) (p : Pair) (found new : Keyed) (so_far : WalkedTo left found) (next : left ≡ p ∷ rest) (taken : (q : Value) → keyed_of new q ≡ with_pair rows but p.spot found q) where
    met_here : Met p
    met_here = (subst (AllByRecursion Met) next so_far.met).0

    -- what is not wanted is not found
    not_found : (q : Value) → keyed_of wanted q ≡ None → keyed_of found q ≡ None
    not_found q none = by_row (keyed_of found q) refl
      where
        by_row : (o : Option (List Value)) → keyed_of found q ≡ o → o ≡ None
        by_row None h = refl
        by_row (Some row) h = let never : None ≡ Some row = sym none ∙ so_far.part q row h in cc

    -- at its key, if it is not left out, all is as it is wanted
    at_key : (q : Value) → is_spot_of p.spot q ≡ true → is_among but q ≡ false → option_or (keyed_of rows q) (keyed_of found q) ≡ keyed_of wanted q
    at_key q here free = by_row (keyed_of rows q) refl
      where
        is_row : keyed_of wanted q ≡ keyed_of rows q
        is_row = apart_at but (meeting column t than rows) q ∙ ap (λ b. cond (not b) (keyed_of (meeting column t than rows) q) None) free ∙ met_here q here

        by_row : (o : Option (List Value)) → keyed_of rows q ≡ o → option_or o (keyed_of found q) ≡ keyed_of wanted q
        by_row None h = let none : keyed_of wanted q ≡ None = is_row ∙ h in not_found q none ∙ sym none
        by_row (Some row) h = sym (is_row ∙ h)

    out_of_it : (q : Value) → is_among but q ≡ true → keyed_of wanted q ≡ None
    out_of_it q among = apart_at but (meeting column t than rows) q ∙ ap (λ b. cond (not b) (keyed_of (meeting column t than rows) q) None) among

    by_cases : (P : Option (List Value) → Type 0) (q : Value) → (is_spot_of p.spot q ≡ true → is_among but q ≡ false → P (keyed_of wanted q)) → ((is_spot_of p.spot q ≡ false) ⊎ (is_among but q ≡ true) → P (keyed_of found q)) → P (keyed_of new q)
    by_cases P q here away = subst P (sym (taken q)) (go (is_spot_of p.spot q) (is_among but q) refl refl)
      where
        go : (b c : Bool) → is_spot_of p.spot q ≡ b → is_among but q ≡ c → P (cond (b && not c) (option_or (keyed_of rows q) (keyed_of found q)) (keyed_of found q))
        go true true e f = away (inr f)
        go true false e f = subst P (sym (at_key q e f)) (here e f)
        go false c e f = away (inl e)

    pub walk_goes_on : WalkedTo rest new
    walk_goes_on = record {
      rise = so_far.rise;
      part = λ q row. by_cases (λ o. o ≡ Some row → keyed_of wanted q ≡ Some row) q (λ e f h. h) (λ out h. so_far.part q row h);
      whole = λ q none. by_cases (λ o. o ≡ keyed_of wanted q) q (λ e f. refl) (λ out. elsewhere q none out);
      met = (subst (AllByRecursion Met) next so_far.met).1;
    }
      where
        elsewhere : (q : Value) → list_any (λ r. is_spot_of r.spot q) rest ≡ false → (is_spot_of p.spot q ≡ false) ⊎ (is_among but q ≡ true) → keyed_of found q ≡ keyed_of wanted q
        elsewhere q none (inl away) = so_far.whole q (ap (λ ps. list_any (λ r. is_spot_of r.spot q) ps) next ∙ rw (away, none) refl)
        elsewhere q none (inr among) = let gone = out_of_it q among in not_found q gone ∙ sym gone

  -- more than are answered
  pub too_many : (left : List Pair) (found : Keyed) → WalkedTo left found → KeysRise found → 32 < length found → None ≡ at_most_32 wanted
  too_many left found so_far ordered over = over_32 wanted (longer (no_longer found wanted ordered so_far.part) over)
    where
      longer : length found ≤ length wanted → 32 < length found → 32 < length wanted
      longer h o = omega (arith, h, o)

  -- all of them
  pub walk_ends : (left : List Pair) (found : Keyed) → WalkedTo left found → KeysRise found → left ≡ [] → length found ≤ 32 → Some found ≡ at_most_32 wanted
  walk_ends left found so_far ordered none fits =
      upto_32 found wanted (same_keyed found wanted ordered
      (rise_filter (λ e. not (is_among but e.0)) (meeting column t than rows) (rise_filter (λ e. value_meets t than (slice_get e.1 column)) rows so_far.rise))
      (λ q. so_far.whole q (ap (λ ps. list_any (λ p. is_spot_of p.spot q) ps) none))) fits
