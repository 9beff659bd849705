-- Rows of one table in order of key, and parts of them.
use Rattle.std.proofs.Common.{◌≡◌, ◌⊎◌, inl, inr, ℕ, Bool, true, false, not, cond, List, [], ◌∷◌, ◌++◌, refl, sym, ap, ◌∙◌, subst}
use Rattle.std.specs.Prelude.{filter, ◌&&◌}
use Rattle.std.specs.List.{AllByRecursion}
use Rattle.std.specs.Cmp.{both_ways}
use Rattle.std.specs.Str.{bytes_eq}
use Rattle.std.specs.declared.cmp.Ordering.{Ordering}
use Rattle.std.specs.declared.cmp.Ordering.TheVariants.{Less, Equal, Greater}
use Rattle.std.specs.declared.ops.Bound.{Bound}
use Rattle.std.specs.declared.ops.Bound.TheVariants.{Included, Excluded, Unbounded}
use Rattle.std.specs.Ordering.{nat_cmp, match_ordering, ordering_reverse, is_le, is_lt}
use Rattle.std.specs.BTreeMap.Range.{is_from_start, range_contains}
use Rattle.std.specs.Cmp.Lexicographic.{slice_cmp}
use Rattle.std.proofs.lemmas.Bool.{cases_Bool}
use Rattle.std.proofs.lemmas.Cmp.{nat_list_cmp_total, tied_itself}
use Rattle.std.proofs.lemmas.List.Elements.{filter_agree}
use Rattle.svc_values.specs.declared.value.Value.{Value}
use Rattle.svc_values.specs.meaning.Order.{value_cmp}
use Rattle.svc_values.specs.meaning.Same.{same_value}
use Rattle.svc_values.specs.SameLaws.{bytes_decide, same_value_decides}
use Rattle.svc_values.proofs.Offered.{value_cmp_total, exact_values}
use Rattle.svc_values.specs.declared.tables.PlainRow.{PlainRow}
use Rattle.svc_values.specs.declared.tables.Place.TheVariants as place
use Rattle.svc_values.specs.meaning.Tables.{rows_at, comes_before}
use Rattle.svc_values.specs.Tables.{ComesFirst, AreTables}
use Rattle.table_txn.proofs.Same.{both, both_if}

-- the rows whose key meets a test
abbrev pub pick : (Value → Bool) → List PlainRow → List PlainRow
pick p rows = filter (λ r. p r.key) rows

pub filter_filter : {X : Type 0} (p q : X → Bool) (xs : List X) → filter p (filter q xs) ≡ filter (λ x. q x && p x) xs
filter_filter p q [] = refl
filter_filter {X} p q (x ∷ xs) = by_test (q x) (filter_filter p q xs)
  where
    by_test : (b : Bool) → filter p (filter q xs) ≡ filter (λ y. q y && p y) xs → filter p (cond b (x ∷ filter q xs) (filter q xs)) ≡ cond (b && p x) (x ∷ filter (λ y. q y && p y) xs) (filter (λ y. q y && p y) xs)
    by_test true same = ap (λ l. cond (p x) (x ∷ l) l) same
    by_test false same = same

pick_agree : (p q : Value → Bool) → ((v : Value) → p v ≡ q v) → (rows : List PlainRow) → pick p rows ≡ pick q rows
pick_agree p q same rows = filter_agree (λ (r : PlainRow). p r.key) (λ (r : PlainRow). q r.key) (λ r. same r.key) rows

pub pick_all : (rows : List PlainRow) → pick (λ v. true) rows ≡ rows
pick_all [] = refl
pick_all (r ∷ rest) = ap (λ l. r ∷ l) (pick_all rest)

-- keys rise
abbrev pub Up : List PlainRow → Type 0
Up [] = Unit {0}
Up (r ∷ rest) = AllByRecursion (λ s. value_cmp r.key s.key ≡ Less) rest × Up rest

all_filter : (P : PlainRow → Type 0) (p : PlainRow → Bool) (rows : List PlainRow) → AllByRecursion P rows → AllByRecursion P (filter p rows)
all_filter P p [] all = tt
all_filter P p (r ∷ rest) all = by_test (p r) (all_filter P p rest all.1)
  where
    by_test : (b : Bool) → AllByRecursion P (filter p rest) → AllByRecursion P (cond b (r ∷ filter p rest) (filter p rest))
    by_test true more = (all.0, more)
    by_test false more = more

pub up_filter : (p : PlainRow → Bool) (rows : List PlainRow) → Up rows → Up (filter p rows)
up_filter p [] up = tt
up_filter p (r ∷ rest) up = by_test (p r) (up_filter p rest up.1) (all_filter (λ s. value_cmp r.key s.key ≡ Less) p rest up.0)
  where
    by_test : (b : Bool) → Up (filter p rest) → AllByRecursion (λ s. value_cmp r.key s.key ≡ Less) (filter p rest) → Up (cond b (r ∷ filter p rest) (filter p rest))
    by_test true more above = (above, more)
    by_test false more above = more

less_from : (o : Ordering) → match_ordering o true false false ≡ true → o ≡ Less
less_from Less h = refl
less_from Equal h = cc
less_from Greater h = cc

before_less : (a b : PlainRow) → a.table ≡ b.table → comes_before a b ≡ true → value_cmp a.key b.key ≡ Less
before_less a b same before =
    let tied : slice_cmp nat_cmp a.table b.table ≡ Equal = ap (slice_cmp nat_cmp a.table) (sym same) ∙ tied_itself nat_list_cmp_total a.table in
    less_from (value_cmp a.key b.key) (sym (ap (λ o. match_ordering o true (match_ordering (value_cmp a.key b.key) true false false) false) tied) ∙ before)

up_tables : (table : List ℕ) (rows : List PlainRow) → AllByRecursion (λ r. r.table ≡ table) rows → AreTables rows → Up rows
up_tables table [] all ordered = tt
up_tables table (r ∷ rest) all ordered = (above rest all.1 ordered.0, up_tables table rest all.1 ordered.1)
  where
    above : (l : List PlainRow) → AllByRecursion (λ s. s.table ≡ table) l → ComesFirst r l → AllByRecursion (λ s. value_cmp r.key s.key ≡ Less) l
    above [] of first = tt
    above (s ∷ more) of first = (before_less r s (all.0 ∙ sym of.0) first.0, above more of.1 first.1)

of_table : (table : List ℕ) (rows : List PlainRow) → AllByRecursion (λ r. r.table ≡ table) (rows_at rows (place.Table table))
of_table table [] = tt
of_table table (r ∷ rest) = by_test (bytes_eq r.table table) refl (of_table table rest)
  where
    by_test : (b : Bool) → bytes_eq r.table table ≡ b → AllByRecursion (λ s. s.table ≡ table) (rows_at rest (place.Table table)) → AllByRecursion (λ s. s.table ≡ table) (cond b (r ∷ rows_at rest (place.Table table)) (rows_at rest (place.Table table)))
    by_test true e more = ((bytes_decide r.table table).0 e, more)
    by_test false e more = more

-- the rows of a table, in order of key
pub up_of : (table : List ℕ) (rows : List PlainRow) → AreTables (rows_at rows (place.Table table)) → Up (rows_at rows (place.Table table))
up_of table rows ordered = up_tables table (rows_at rows (place.Table table)) (of_table table rows) ordered

-- ---- two parts, one before the other

none_behind : (p : Value → Bool) (key : Value) (rows : List PlainRow) → ((a b : Value) → value_cmp a b ≡ Less → p b ≡ true → p a ≡ true) → p key ≡ false → AllByRecursion (λ s. value_cmp key s.key ≡ Less) rows → pick p rows ≡ []
none_behind p key [] down away above = refl
none_behind p key (r ∷ rest) down away above =
    let none = none_behind p key rest down away above.1 in
    ap (λ b. cond b (r ∷ pick p rest) (pick p rest)) (not_here (cases_Bool (p r.key))) ∙ none
  where
    not_here : (p r.key ≡ true) ⊎ (p r.key ≡ false) → p r.key ≡ false
    not_here (inl h) = let there : p key ≡ true = down key r.key above.0 h in let never : true ≡ false = sym there ∙ away in cc
    not_here (inr h) = h

split : (p : Value → Bool) → ((a b : Value) → value_cmp a b ≡ Less → p b ≡ true → p a ≡ true) → (rows : List PlainRow) → Up rows → rows ≡ pick p rows ++ pick (λ v. not (p v)) rows
split p down [] up = refl
split p down (r ∷ rest) up = by_test (p r.key) refl (split p down rest up.1)
  where
    by_test : (b : Bool) → p r.key ≡ b → rest ≡ pick p rest ++ pick (λ v. not (p v)) rest → r ∷ rest ≡ pick p (r ∷ rest) ++ pick (λ v. not (p v)) (r ∷ rest)
    by_test true e more =
        ap (λ l. r ∷ l) more
        ∙ sym (ap (λ b. cond b (r ∷ pick p rest) (pick p rest) ++ cond (not b) (r ∷ pick (λ v. not (p v)) rest) (pick (λ v. not (p v)) rest)) e)
    by_test false e more =
        let none : pick p rest ≡ [] = none_behind p r.key rest down e up.0 in
        ap (λ l. r ∷ l) (more ∙ ap (λ l. l ++ pick (λ v. not (p v)) rest) none)
        ∙ sym (ap (λ l. l ++ r ∷ pick (λ v. not (p v)) rest) none)
        ∙ sym (ap (λ b. cond b (r ∷ pick p rest) (pick p rest) ++ cond (not b) (r ∷ pick (λ v. not (p v)) rest) (pick (λ v. not (p v)) rest)) e)

-- ---- keys below, at and above one

pub le_lt : (k a b : Value) → is_le (value_cmp k a) ≡ true → value_cmp a b ≡ Less → value_cmp k b ≡ Less
le_lt k a b le lt = by_order (value_cmp k a) refl le
  where
    by_order : (o : Ordering) → value_cmp k a ≡ o → is_le o ≡ true → value_cmp k b ≡ Less
    by_order Less e h = value_cmp_total.trans k a b e lt
    by_order Equal e h = value_cmp_total.congr k a b e ∙ lt
    by_order Greater e h = cc

lt_le : (a b k : Value) → value_cmp a b ≡ Less → is_le (value_cmp b k) ≡ true → value_cmp a k ≡ Less
lt_le a b k lt le = by_order (value_cmp b k) refl le
  where
    by_order : (o : Ordering) → value_cmp b k ≡ o → is_le o ≡ true → value_cmp a k ≡ Less
    by_order Less e h = value_cmp_total.trans a b k lt e
    by_order Equal e h = subst (λ (v : Value). value_cmp a v ≡ Less) (exact_values b k e) lt
    by_order Greater e h = cc

pub flip : (a b : Value) (o : Ordering) → value_cmp a b ≡ o → value_cmp b a ≡ ordering_reverse o
flip a b o e = value_cmp_total.antisymm b a ∙ ap ordering_reverse e

pub tied : (k : Value) → value_cmp k k ≡ Equal
tied k = tied_itself value_cmp_total k

below_down : (k a b : Value) → value_cmp a b ≡ Less → not (is_le (value_cmp k b)) ≡ true → not (is_le (value_cmp k a)) ≡ true
below_down k a b lt h = by_test (cases_Bool (is_le (value_cmp k a)))
  where
    by_test : (is_le (value_cmp k a) ≡ true) ⊎ (is_le (value_cmp k a) ≡ false) → not (is_le (value_cmp k a)) ≡ true
    by_test (inl le) = let there : is_le (value_cmp k b) ≡ true = ap is_le (le_lt k a b le lt) in let never : false ≡ true = sym (ap not there) ∙ h in cc
    by_test (inr away) = ap not away

upto_down : (k a b : Value) → value_cmp a b ≡ Less → is_le (value_cmp b k) ≡ true → is_le (value_cmp a k) ≡ true
upto_down k a b lt le = ap is_le (lt_le a b k lt le)

-- from a bound on
abbrev pub from : Bound Value → Value → Bool
from lo q = is_from_start value_cmp lo q

pub from_up : (lo : Bound Value) (a b : Value) → from lo a ≡ true → value_cmp a b ≡ Less → from lo b ≡ true
from_up (Included f) a b h lt = ap is_le (le_lt f a b h lt)
from_up (Excluded f) a b h lt = ap is_lt (value_cmp_total.trans f a b (is_less (value_cmp f a) h) lt)
  where
    is_less : (o : Ordering) → is_lt o ≡ true → o ≡ Less
    is_less Less e = refl
    is_less Equal e = cc
    is_less Greater e = cc
from_up Unbounded a b h lt = refl

not_not : (b : Bool) → not (not b) ≡ true → b ≡ true
not_not true h = refl
not_not false h = cc

un_not : (b : Bool) → not b ≡ true → b ≡ false
un_not true h = cc
un_not false h = refl

le_le : (k q : Value) → is_le (value_cmp k q) ≡ true → is_le (value_cmp q k) ≡ true → q ≡ k
le_le k q h g = by_order (value_cmp k q) refl h
  where
    by_order : (o : Ordering) → value_cmp k q ≡ o → is_le o ≡ true → q ≡ k
    by_order Less e le = let back : is_le (value_cmp q k) ≡ false = ap is_le (flip k q Less e) in let never : true ≡ false = sym g ∙ back in cc
    by_order Equal e le = sym (exact_values k q e)
    by_order Greater e le = cc

module _ (lo : Bound Value) (k : Value) (above : from lo k ≡ true) where
  at_key : (q : Value) → ((from lo q && not (not (is_le (value_cmp k q)))) && is_le (value_cmp q k)) ≡ same_value q k
  at_key q = both_ways ((from lo q && not (not (is_le (value_cmp k q)))) && is_le (value_cmp q k)) (same_value q k) to back
    where
      to : ((from lo q && not (not (is_le (value_cmp k q)))) && is_le (value_cmp q k)) ≡ true → same_value q k ≡ true
      to h =
          let one = both (from lo q && not (not (is_le (value_cmp k q)))) (is_le (value_cmp q k)) h in
          let two = both (from lo q) (not (not (is_le (value_cmp k q)))) one.0 in
          (same_value_decides q k).1 (le_le k q (not_not (is_le (value_cmp k q)) two.1) one.1)

      back : same_value q k ≡ true → ((from lo q && not (not (is_le (value_cmp k q)))) && is_le (value_cmp q k)) ≡ true
      back h =
          let same : k ≡ q = sym ((same_value_decides q k).0 h) in
          subst (λ (v : Value). ((from lo v && not (not (is_le (value_cmp k v)))) && is_le (value_cmp v k)) ≡ true) same
          (both_if (from lo k && not (not (is_le (value_cmp k k)))) (is_le (value_cmp k k)) (both_if (from lo k) (not (not (is_le (value_cmp k k)))) above (ap (λ o. not (not (is_le o))) (tied k))) (ap is_le (tied k)))

  behind : (q : Value) → ((from lo q && not (not (is_le (value_cmp k q)))) && not (is_le (value_cmp q k))) ≡ is_lt (value_cmp k q)
  behind q = both_ways ((from lo q && not (not (is_le (value_cmp k q)))) && not (is_le (value_cmp q k))) (is_lt (value_cmp k q)) to back
    where
      by_order : (o : Ordering) → value_cmp k q ≡ o → is_le o ≡ true → is_le (value_cmp q k) ≡ false → is_lt o ≡ true
      by_order Less e h g = refl
      by_order Equal e h g = let there : is_le (value_cmp q k) ≡ true = ap is_le (flip k q Equal e) in let never : true ≡ false = sym there ∙ g in cc
      by_order Greater e h g = cc

      to : ((from lo q && not (not (is_le (value_cmp k q)))) && not (is_le (value_cmp q k))) ≡ true → is_lt (value_cmp k q) ≡ true
      to h =
          let one = both (from lo q && not (not (is_le (value_cmp k q)))) (not (is_le (value_cmp q k))) h in
          let two = both (from lo q) (not (not (is_le (value_cmp k q)))) one.0 in
          by_order (value_cmp k q) refl (not_not (is_le (value_cmp k q)) two.1) (un_not (is_le (value_cmp q k)) one.1)

      less : (o : Ordering) → is_lt o ≡ true → o ≡ Less
      less Less e = refl
      less Equal e = cc
      less Greater e = cc

      back : is_lt (value_cmp k q) ≡ true → ((from lo q && not (not (is_le (value_cmp k q)))) && not (is_le (value_cmp q k))) ≡ true
      back h =
          let lt : value_cmp k q ≡ Less = less (value_cmp k q) h in
          both_if (from lo q && not (not (is_le (value_cmp k q)))) (not (is_le (value_cmp q k))) (both_if (from lo q) (not (not (is_le (value_cmp k q)))) (from_up lo k q above lt) (ap (λ o. not (not (is_le o))) lt)) (ap (λ o. not (is_le o)) (flip k q Less lt))

  -- from a bound on: what is below a key, what is at it, and what is above
  pub three_parts : (rows : List PlainRow) → Up rows → pick (from lo) rows ≡ pick (range_contains value_cmp lo (Excluded k)) rows ++ (pick (λ q. same_value q k) rows ++ pick (from (Excluded k)) rows)
  three_parts rows up =
      let ahead = pick (from lo) rows in
      let up_ahead : Up ahead = up_filter (λ r. from lo r.key) rows up in
      let above_here = pick (λ q. not (not (is_le (value_cmp k q)))) ahead in
      let up_above : Up above_here = up_filter (λ r. not (not (is_le (value_cmp k r.key)))) ahead up_ahead in
      let above_rows : above_here ≡ pick (λ q. from lo q && not (not (is_le (value_cmp k q)))) rows = filter_filter (λ (r : PlainRow). not (not (is_le (value_cmp k r.key)))) (λ (r : PlainRow). from lo r.key) rows in
      let here : pick (λ q. is_le (value_cmp q k)) above_here ≡ pick (λ q. same_value q k) rows =
      ap (pick (λ q. is_le (value_cmp q k))) above_rows ∙ filter_filter (λ (r : PlainRow). is_le (value_cmp r.key k)) (λ (r : PlainRow). from lo r.key && not (not (is_le (value_cmp k r.key)))) rows
      ∙ pick_agree (λ q. (from lo q && not (not (is_le (value_cmp k q)))) && is_le (value_cmp q k)) (λ q. same_value q k) at_key rows in
      let over : pick (λ q. not (is_le (value_cmp q k))) above_here ≡ pick (from (Excluded k)) rows =
      ap (pick (λ q. not (is_le (value_cmp q k)))) above_rows ∙ filter_filter (λ (r : PlainRow). not (is_le (value_cmp r.key k))) (λ (r : PlainRow). from lo r.key && not (not (is_le (value_cmp k r.key)))) rows
      ∙ pick_agree (λ q. (from lo q && not (not (is_le (value_cmp k q)))) && not (is_le (value_cmp q k))) (λ q. is_lt (value_cmp k q)) behind rows in
      split (λ q. not (is_le (value_cmp k q))) (below_down k) ahead up_ahead
      ∙ ap (λ l. l ++ above_here) (filter_filter (λ (r : PlainRow). not (is_le (value_cmp k r.key))) (λ (r : PlainRow). from lo r.key) rows)
      ∙ ap (λ l. pick (range_contains value_cmp lo (Excluded k)) rows ++ l) (split (λ q. is_le (value_cmp q k)) (upto_down k) above_here up_above ∙ ap (λ l. l ++ pick (λ q. not (is_le (value_cmp q k))) above_here) here ∙ ap (λ l. pick (λ q. same_value q k) rows ++ l) over)

-- and all of it, where no key is left
pub last_part : (lo : Bound Value) (rows : List PlainRow) → pick (from lo) rows ≡ pick (range_contains value_cmp lo Unbounded) rows
last_part lo rows = pick_agree (from lo) (range_contains value_cmp lo Unbounded) (λ q. and_true (from lo q)) rows
  where
    and_true : (b : Bool) → b ≡ (b && true)
    and_true true = refl
    and_true false = refl
