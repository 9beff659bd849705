-- Rows that are picked out of a table by a test and by keys: their lookups, their order, and how
-- many.
use Rattle.std.proofs.Common.{arith, ◌≡◌, inl, inr, ℕ, ◌<◌, ◌≤◌, Bool, true, false, cond, List, [], ◌∷◌, length, nat_lt, refl, sym, ◌∙◌, ap, subst}
use Rattle.std.specs.Prelude.{Option, Some, None, IsSome, filter, not, slice_get}
use Rattle.std.specs.List.{AllByRecursion}
use Rattle.std.specs.List.Sorted.{IsStrictlySortedBy}
use Rattle.std.specs.declared.cmp.Ordering.{Ordering}
use Rattle.std.specs.declared.cmp.Ordering.TheVariants.{Less, Equal, Greater}
use Rattle.std.specs.Ordering.{is_eq, ordering_reverse}
use Rattle.std.specs.Option.{is_some, option_map}
use Rattle.std.specs.BTreeMap.{BTreeMap, is_at}
use Rattle.std.specs.Map.{keys_of, lookup, values_of}
use Rattle.std.proofs.lemmas.Bool.{cases_Bool}
use Rattle.std.proofs.lemmas.Cmp.{eq_by_cmp_equiv}
use Rattle.std.proofs.lemmas.Map.Entries.{length-keys_of, length-values_of, option_filter, lookup-filter-keys, lookup-filter-values}
use Rattle.std.proofs.lemmas.Map.Keys.{IsDistinct-from_sorted}
use Rattle.std.proofs.lemmas.Map.Made.{is_some-lookup}
use Rattle.std.proofs.lemmas.Map.Steps.{length-le_from_keys}
use Rattle.svc_values.specs.declared.statement.Test.{Test}
use Rattle.svc_values.specs.declared.value.Value.{Value}
use Rattle.svc_values.specs.meaning.Order.{value_cmp}
use Rattle.svc_values.specs.meaning.Tests.{selected, value_meets}
use Rattle.svc_values.proofs.Offered.{value_cmp_total, exact_values}
use Rattle.table_store.specs.Rows.{Keyed, KeysRise, keyed_of}
use Rattle.table_store.specs.Selection.{apart_from, at_most_32, is_among, meeting}
use Rattle.table_store.proofs.Indexed.{none_above}
use Rattle.table_store.proofs.Maps.{keys_equal, keys_equal_if}

-- ---- order

above_filter : (p : Value × List Value → Bool) (key : Value) (entries : Keyed) → AllByRecursion (λ k. value_cmp key k ≡ Less) (keys_of entries) → AllByRecursion (λ k. value_cmp key k ≡ Less) (keys_of (filter p entries))
above_filter p key [] above = tt
above_filter p key (entry ∷ rest) above = by_test (p entry) (above_filter p key rest above.1)
  where
    by_test : (b : Bool) → AllByRecursion (λ k. value_cmp key k ≡ Less) (keys_of (filter p rest)) → AllByRecursion (λ k. value_cmp key k ≡ Less) (keys_of (cond b (entry ∷ filter p rest) (filter p rest)))
    by_test true more = (above.0, more)
    by_test false more = more

-- rows that are picked stay in order
pub rise_filter : (p : Value × List Value → Bool) (entries : Keyed) → KeysRise entries → KeysRise (filter p entries)
unfolding IsStrictlySortedBy
rise_filter p [] rise = rise
rise_filter p (entry ∷ rest) rise = by_test (p entry) (above_filter p entry.0 rest rise.0) (rise_filter p rest rise.1)
  where
    by_test : (b : Bool) → AllByRecursion (λ k. value_cmp entry.0 k ≡ Less) (keys_of (filter p rest)) → KeysRise (filter p rest) → KeysRise (cond b (entry ∷ filter p rest) (filter p rest))
    by_test true above more = (above, more)
    by_test false above more = more

-- ---- lookups

-- the row of a key among those whose keys are not given
pub apart_at : (keys : BTreeMap Value ℕ) (rows : Keyed) (q : Value) → keyed_of (apart_from keys rows) q ≡ cond (not (is_among keys q)) (keyed_of rows q) None
apart_at keys rows q =
    lookup-filter-keys (is_at (value_cmp q)) (λ k. not (is_among keys k)) (not (is_among keys q)) (λ k same. ap (λ v. not (is_among keys v)) (sym (keys_equal q k same))) rows

-- and among those that meet a test
pub meeting_at : (column : ℕ) (test : Test) (than : Value) (rows : Keyed) (q : Value) → KeysRise rows
    → keyed_of (meeting column test than rows) q ≡ option_filter (λ row. value_meets test than (slice_get row column)) (keyed_of rows q)
meeting_at column test than rows q rise =
    lookup-filter-values (eq_by_cmp_equiv value_cmp_total) (λ row. value_meets test than (slice_get row column)) q rows (IsDistinct-from_sorted value_cmp (keys_of rows) rise)

-- ---- how many

some_of : {A : Type 0} (o : Option A) → is_some o ≡ true → (x : A) × (o ≡ Some x)
some_of None h = cc
some_of (Some x) h = (x, refl)

-- rows that are all among others are no more than those
pub no_longer : (part whole : Keyed) → KeysRise part → ((q : Value) (row : List Value) → keyed_of part q ≡ Some row → keyed_of whole q ≡ Some row) → length part ≤ length whole
no_longer part whole rise within =
    let keys : length (keys_of part) ≤ length whole = length-le_from_keys (eq_by_cmp_equiv value_cmp_total) (keys_of part) whole (IsDistinct-from_sorted value_cmp (keys_of part) rise)
    (λ q there. let found = some_of (keyed_of part q) (is_some-lookup (is_at (value_cmp q)) part ∙ there) in subst IsSome (sym (within q found.0 found.1)) refl) in
    subst (λ n. n ≤ length whole) (length-keys_of part) keys

more_than : (rows : Keyed) (n : ℕ) → n ≡ length rows → 32 < n → None ≡ at_most_32 rows
more_than rows n same over =
    let above : nat_lt 32 (length rows) ≡ true = grind arith in
    sym (ap (λ b. cond b None (Some rows)) above)

pub over_32 : (rows : Keyed) → 32 < length rows → None ≡ at_most_32 rows
over_32 rows over = more_than rows (length rows) refl over

pub upto_32 : (found rows : Keyed) → found ≡ rows → length found ≤ 32 → Some found ≡ at_most_32 rows
upto_32 found rows same fits =
    let below : nat_lt 32 (length found) ≡ false = grind arith in
    sym (ap (λ b. cond b None (Some found)) below) ∙ ap (λ (l : Keyed). at_most_32 l) same

-- ---- lists in order with the same lookups

through : (a b : Value) (ks : List Value) → value_cmp a b ≡ Less → AllByRecursion (λ k. value_cmp b k ≡ Less) ks → AllByRecursion (λ k. value_cmp a k ≡ Less) ks
through a b [] less above = tt
through a b (k ∷ ks) less above = (value_cmp_total.trans a b k less above.0, through a b ks less above.1)

at_first : (x : Value × List Value) (xs : Keyed) → keyed_of (x ∷ xs) x.0 ≡ Some x.1
at_first x xs = ap (λ b. cond b (Some x.1) (keyed_of xs x.0)) (keys_equal_if x.0 x.0 refl)

before_all : (key : Value) (y : Value × List Value) (ys : Keyed) → KeysRise (y ∷ ys) → value_cmp key y.0 ≡ Less → keyed_of (y ∷ ys) key ≡ None
unfolding IsStrictlySortedBy
before_all key y ys rise less = none_above key (y ∷ ys) (less, through key y.0 (keys_of ys) less rise.0)

same_heads : (x y : Value × List Value) (xs ys : Keyed) → KeysRise (x ∷ xs) → KeysRise (y ∷ ys) → ((q : Value) → keyed_of (x ∷ xs) q ≡ keyed_of (y ∷ ys) q) → (o : Ordering) → value_cmp x.0 y.0 ≡ o → x ≡ y
same_heads x y xs ys rise_x rise_y same Less e =
    let never : Some x.1 ≡ None = sym (at_first x xs) ∙ same x.0 ∙ before_all x.0 y ys rise_y e in cc
same_heads x y xs ys rise_x rise_y same Equal e =
    let keys : x.0 ≡ y.0 = exact_values x.0 y.0 e in
    let found : Some x.1 ≡ Some y.1 = sym (at_first x xs) ∙ same x.0 ∙ ap (keyed_of (y ∷ ys)) keys ∙ at_first y ys in
    let rows : x.1 ≡ y.1 = cc in
    λ i. (keys i, rows i)
same_heads x y xs ys rise_x rise_y same Greater e =
    let back : value_cmp y.0 x.0 ≡ Less = value_cmp_total.antisymm y.0 x.0 ∙ ap ordering_reverse e in
    let never : Some y.1 ≡ None = sym (at_first y ys) ∙ sym (same y.0) ∙ before_all y.0 x xs rise_x back in cc

same_tails : (x : Value × List Value) (xs ys : Keyed) → KeysRise (x ∷ xs) → KeysRise (x ∷ ys) → ((q : Value) → keyed_of (x ∷ xs) q ≡ keyed_of (x ∷ ys) q) → (q : Value) → keyed_of xs q ≡ keyed_of ys q
unfolding IsStrictlySortedBy
same_tails x xs ys rise_x rise_y same q =
    elim (cases_Bool (is_eq (value_cmp q x.0))) [
      | inl here ↦
          let key : x.0 ≡ q = sym (keys_equal q x.0 here) in
          subst (λ v. keyed_of xs v ≡ keyed_of ys v) key (none_above x.0 xs rise_x.0 ∙ sym (none_above x.0 ys rise_y.0))
      | inr away ↦
          sym (ap (λ b. cond b (Some x.1) (keyed_of xs q)) away) ∙ same q ∙ ap (λ b. cond b (Some x.1) (keyed_of ys q)) away
    ]

-- rows in order that are found alike are the same rows
pub same_keyed : (a b : Keyed) → KeysRise a → KeysRise b → ((q : Value) → keyed_of a q ≡ keyed_of b q) → a ≡ b
unfolding IsStrictlySortedBy
same_keyed [] [] rise_a rise_b same = refl
same_keyed [] (y ∷ ys) rise_a rise_b same = let never : None ≡ Some y.1 = same y.0 ∙ at_first y ys in cc
same_keyed (x ∷ xs) [] rise_a rise_b same = let never : None ≡ Some x.1 = sym (same x.0) ∙ at_first x xs in cc
same_keyed (x ∷ xs) (y ∷ ys) rise_a rise_b same =
    let heads : x ≡ y = same_heads x y xs ys rise_a rise_b same (value_cmp x.0 y.0) refl in
    let rise_x : KeysRise (x ∷ ys) = subst (λ (e : Value × List Value). KeysRise (e ∷ ys)) (sym heads) rise_b in
    let same_x = subst (λ (e : Value × List Value). (q : Value) → keyed_of (x ∷ xs) q ≡ keyed_of (e ∷ ys) q) (sym heads) same in
    ap (λ l. x ∷ l) (same_keyed xs ys rise_a.1 rise_b.1 (same_tails x xs ys rise_a rise_x same_x)) ∙ ap (λ e. e ∷ ys) heads

-- ---- a select

-- where no key is left out
apart_from_none : (keys : BTreeMap Value ℕ) → keys.entries ≡ [] → (rows : Keyed) → apart_from keys rows ≡ rows
apart_from_none keys none [] = refl
apart_from_none keys none (entry ∷ rest) =
    let free : is_among keys entry.0 ≡ false = ap (λ (es : List (Value × ℕ)). is_some (lookup (is_at (value_cmp entry.0)) es)) none in
    ap (λ b. cond (not b) (entry ∷ apart_from keys rest) (apart_from keys rest)) free ∙ ap (λ l. entry ∷ l) (apart_from_none keys none rest)

-- the rows that meet a test, without their keys
pub values_meeting : (column : ℕ) (test : Test) (than : Value) (rows : Keyed) → values_of (meeting column test than rows) ≡ selected column test than (values_of rows)
values_meeting column test than [] = refl
values_meeting column test than (entry ∷ rest) = by_test (value_meets test than (slice_get entry.1 column)) (values_meeting column test than rest)
  where
    by_test : (b : Bool) → values_of (meeting column test than rest) ≡ selected column test than (values_of rest)
        → values_of (cond b (entry ∷ meeting column test than rest) (meeting column test than rest)) ≡ cond b (entry.1 ∷ selected column test than (values_of rest)) (selected column test than (values_of rest))
    by_test true same = ap (λ l. entry.1 ∷ l) same
    by_test false same = same

values_at_most : (rows : Keyed) → option_map values_of (at_most_32 rows) ≡ at_most_32 (values_of rows)
values_at_most rows = by_test (nat_lt 32 (length rows)) ∙ ap (λ n. cond (nat_lt 32 n) None (Some (values_of rows))) (sym (length-values_of rows))
  where
    by_test : (b : Bool) → option_map values_of (cond b None (Some rows)) ≡ cond b None (Some (values_of rows))
    by_test true = refl
    by_test false = refl

-- the rows themselves, where no key is left out
pub selected_of : (found : Option Keyed) (keys : BTreeMap Value ℕ) (column : ℕ) (test : Test) (than : Value) (rows : Keyed) → found ≡ at_most_32 (apart_from keys (meeting column test than rows)) → keys.entries ≡ []
    → option_map values_of found ≡ at_most_32 (selected column test than (values_of rows))
selected_of found keys column test than rows same none =
    ap (option_map values_of) (same ∙ ap (λ (l : Keyed). at_most_32 l) (apart_from_none keys none (meeting column test than rows)))
    ∙ values_at_most (meeting column test than rows)
    ∙ ap (λ (l : List (List Value)). at_most_32 l) (values_meeting column test than rows)
