-- A select over committed rows with writes over them.
use Rattle.std.proofs.Common.{arith, ◌≡◌, ◌⊎◌, inl, inr, ℕ, zero, suc, ◌<◌, ◌≤◌, Bool, true, false, cond, List, [], ◌∷◌, length, nat_lt, refl, sym, ◌∙◌, ap, subst}
use Rattle.std.specs.Prelude.{IfSome, Option, Some, None, filter, map, not, slice_get, option_and_then, ◌&&◌}
use Rattle.std.specs.List.{AllByRecursion}
use Rattle.std.specs.List.Sorted.{IsStrictlySortedBy}
use Rattle.std.specs.Option.{is_some, option_map, option_or}
use Rattle.std.specs.declared.cmp.Ordering.TheVariants.{Less}
use Rattle.std.specs.declared.ops.Bound.{Bound}
use Rattle.std.specs.declared.ops.Bound.TheVariants.{Excluded, Unbounded}
use Rattle.std.specs.Ordering.{is_eq}
use Rattle.std.specs.Str.{bytes_eq}
use Rattle.std.specs.BTreeMap.{is_at as is_key}
use Rattle.std.specs.BTreeMap.Range.{entries_between}
use Rattle.std.specs.Map.{keys_of, lookup, values_of}
use Rattle.std.proofs.lemmas.Bool.{cases_Bool}
use Rattle.std.proofs.lemmas.Map.Entries.{option_filter, lookup-filter-keys}
use Rattle.svc_values.specs.declared.entry.Write.{Write}
use Rattle.svc_values.specs.declared.statement.Test.{Test}
use Rattle.svc_values.specs.declared.value.Value.{Value}
use Rattle.svc_values.specs.declared.tables.PlainRow.{PlainRow}
use Rattle.svc_values.specs.declared.tables.Place.TheVariants as place
use Rattle.svc_values.specs.meaning.Order.{value_cmp}
use Rattle.svc_values.specs.meaning.Same.{same_value}
use Rattle.svc_values.specs.SameLaws.{bytes_decide, same_value_decides}
use Rattle.svc_values.specs.meaning.Tables.{is_at, rows_at, with_writes}
use Rattle.svc_values.specs.Tables.{AreTables}
use Rattle.svc_values.specs.meaning.Tests.{selected, value_meets}
use Rattle.svc_values.proofs.Offered.{AreTables-filter, AreTables-with_writes}
use Rattle.stmt_meaning.specs.meaning.Effects.{limited, first_of}
use Rattle.stmt_meaning.specs.meaning.Meaning.{seen_at}
use Rattle.table_store.specs.Given.{keyed_rows}
use Rattle.table_store.specs.Rows.{Keyed, KeysFirst, KeysRise, keyed_of, row_if_any}
use Rattle.table_store.specs.Selection.{apart_from, at_most_32, is_among, keys_sought, meeting}
use Rattle.table_store.proofs.Offered.{keys_equal, keys_equal_if, apart_at, first_at, in_sought, meeting_at, no_longer, rise_filter, same_keyed, sought_skips, values_meeting}
use Rattle.table_txn.specs.Own.{Keys, last_at, last_write, place_in}
use Rattle.table_txn.specs.Selecting.{if_met, select_answer, with_own}
use Rattle.table_txn.proofs.Over.{last_within, over_row, stands}
use Rattle.table_txn.proofs.Picks.{Up, pick_all, up_of}
use Rattle.table_txn.proofs.ScanSteps.{AreLeft, key_last, left_first, left_next, untouched}

-- ---- the rows of a table by their keys

none_above : (key : Value) (rows : List PlainRow) → AllByRecursion (λ s. value_cmp key s.key ≡ Less) rows → keyed_of (map (λ one. (one.key, one.row)) rows) key ≡ None
none_above key [] above = refl
none_above key (r ∷ rest) above =
    ap (λ o. cond (is_eq o) (Some r.row) (keyed_of (map (λ one. (one.key, one.row)) rest) key)) above.0 ∙ none_above key rest above.1

keys_above : (key : Value) (rows : List PlainRow) → AllByRecursion (λ s. value_cmp key s.key ≡ Less) rows → AllByRecursion (λ k. value_cmp key k ≡ Less) (keys_of (map (λ one. (one.key, one.row)) rows))
keys_above key [] above = tt
keys_above key (r ∷ rest) above = (above.0, keys_above key rest above.1)

rise_of : (rows : List PlainRow) → Up rows → KeysRise (map (λ one. (one.key, one.row)) rows)
unfolding IsStrictlySortedBy
rise_of [] up = tt
rise_of (r ∷ rest) up = (keys_above r.key rest up.0, rise_of rest up.1)

-- what stands at a place is the row of its key
found_row : (table : List ℕ) (key : Value) (rows : List PlainRow) → Up (rows_at rows (place.Table table)) → rows_at rows (place.Row table key) ≡ row_if_any table key (keyed_of (keyed_rows rows table) key)
found_row table key [] up = refl
found_row table key (r ∷ rest) up = by_table (found_row table key rest) (bytes_eq r.table table) refl up
  where
    here : (Up (rows_at rest (place.Table table)) → rows_at rest (place.Row table key) ≡ row_if_any table key (keyed_of (keyed_rows rest table) key)) → (up_here : Up (r ∷ rows_at rest (place.Table table))) → r.table ≡ table → (c : Bool) → same_value r.key key ≡ c
        → cond c (r ∷ rows_at rest (place.Row table key)) (rows_at rest (place.Row table key)) ≡ row_if_any table key (keyed_of ((r.key, r.row) ∷ keyed_rows rest table) key)
    here found up_here of true e =
        let key_is : r.key ≡ key = (same_value_decides r.key key).0 e in
        let none : keyed_of (keyed_rows rest table) key ≡ None = subst (λ v. keyed_of (keyed_rows rest table) v ≡ None) key_is (none_above r.key (rows_at rest (place.Table table)) up_here.0) in
        let equal : is_eq (value_cmp key r.key) ≡ true = keys_equal_if key r.key (sym key_is) in
        ap (λ l. r ∷ l) (found up_here.1 ∙ ap (row_if_any table key) none)
        ∙ ap (λ (p : PlainRow). p ∷ []) (λ i. record { table = of i; key = key_is i; row = r.row })
        ∙ ap (λ b. row_if_any table key (cond b (Some r.row) (keyed_of (keyed_rows rest table) key))) (sym equal)
    here found up_here of false e =
        let differ : is_eq (value_cmp key r.key) ≡ false = other (cases_Bool (is_eq (value_cmp key r.key))) in
        found up_here.1 ∙ ap (λ b. row_if_any table key (cond b (Some r.row) (keyed_of (keyed_rows rest table) key))) (sym differ)
      where
        other : (is_eq (value_cmp key r.key) ≡ true) ⊎ (is_eq (value_cmp key r.key) ≡ false) → is_eq (value_cmp key r.key) ≡ false
        other (inl h) = let never : true ≡ false = sym ((same_value_decides r.key key).1 (sym (keys_equal key r.key h))) ∙ e in cc
        other (inr h) = h

    by_table : (Up (rows_at rest (place.Table table)) → rows_at rest (place.Row table key) ≡ row_if_any table key (keyed_of (keyed_rows rest table) key)) → (b : Bool) → bytes_eq r.table table ≡ b → Up (cond b (r ∷ rows_at rest (place.Table table)) (rows_at rest (place.Table table)))
        → cond (b && same_value r.key key) (r ∷ rows_at rest (place.Row table key)) (rows_at rest (place.Row table key))
        ≡ row_if_any table key (keyed_of (map (λ one. (one.key, one.row)) (cond b (r ∷ rows_at rest (place.Table table)) (rows_at rest (place.Table table)))) key)
    by_table found true e up_here = here found up_here ((bytes_decide r.table table).0 e) (same_value r.key key) refl
    by_table found false e up_there = found up_there

first_if_any : (table : List ℕ) (key : Value) (row : Option (List Value)) → row ≡ first_of (map (λ one. one.row) (row_if_any table key row))
first_if_any table key None = refl
first_if_any table key (Some row) = refl

same_row : (table : List ℕ) (key : Value) (a b : Option (List Value)) → row_if_any table key a ≡ row_if_any table key b → a ≡ b
same_row table key a b same = first_if_any table key a ∙ ap (λ l. first_of (map (λ one. one.row) l)) same ∙ sym (first_if_any table key b)

-- ---- how many are answered

over_of : {A : Type 0} (l : List A) → None ≡ at_most_32 l → 32 < length l
over_of {A} l none = by_test (nat_lt 32 (length l)) refl none
  where
    by_test : (b : Bool) → nat_lt 32 (length l) ≡ b → ◌≡◌ {A = Option (List A)} None (cond b None (Some l)) → 32 < length l
    by_test true e h = grind arith
    by_test false e h = cc

-- what is found is all, if it is no more than are answered
pub some_at_most : {A : Type 0} (found l : List A) → Some found ≡ at_most_32 l → found ≡ l
some_at_most {A} found l same = by_test (nat_lt 32 (length l)) same
  where
    by_test : (b : Bool) → Some found ≡ cond b None (Some l) → found ≡ l
    by_test true h = cc
    by_test false h = cc

pub fits_of : {A : Type 0} (f : A → List (List Value)) (found : Option A) (l : List (List Value)) → option_map f found ≡ at_most_32 l → IfSome found (λ x. length (f x) ≤ 32)
fits_of f None l same = tt
fits_of f (Some x) l same = by_test (nat_lt 32 (length l)) refl same
  where
    by_test : (b : Bool) → nat_lt 32 (length l) ≡ b → Some (f x) ≡ cond b None (Some l) → length (f x) ≤ 32
    by_test true e h = cc
    by_test false e h =
        let all : f x ≡ l = cc in
        let fits : length l ≤ 32 = grind arith in subst (λ m. length m ≤ 32) (sym all) fits

pub answer_at_most : (l : List (List Value)) → select_answer (at_most_32 l) ≡ limited l
answer_at_most l = by_test (nat_lt 32 (length l))
  where
    by_test : (b : Bool) → select_answer (cond b None (Some l)) ≡ cond b (select_answer None) (select_answer (Some l))
    by_test true = refl
    by_test false = refl

-- where nothing was written the committed rows are seen
pub seen_unwritten : (rows : List PlainRow) (writes : List Write) (table : List ℕ) → ((key : Value) → last_at writes table key ≡ None) → rows_at (with_writes rows writes) (place.Table table) ≡ rows_at rows (place.Table table)
seen_unwritten rows writes table none =
    sym (pick_all (rows_at (with_writes rows writes) (place.Table table))) ∙ untouched rows table (λ v. true) writes (λ key h. none key) ∙ pick_all (rows_at rows (place.Table table))

got : {A : Type 0} (xs : List A) (i : ℕ) → i < length xs → (x : A) × (slice_get xs i ≡ Some x)
got [] i lt = absurd (omega arith)
got (x ∷ xs) zero lt = (x, refl)
got (x ∷ xs) (suc i) lt = got xs i (omega arith)

-- ---- the keys that were written

-- each stands with the place of its last write
abbrev pub AreLast : List Write → List ℕ → List (Value × ℕ) → Type 0
AreLast writes table keys = AllByRecursion (λ one. last_at writes table one.0 ≡ Some one.1) keys

last_left : (rows : List PlainRow) (writes : List Write) (table : List ℕ) (lo : Bound Value) (left : List (Value × ℕ)) → AreLeft rows writes table lo left → AreLast writes table left
last_left rows writes table lo [] are = tt
last_left rows writes table lo (one ∷ rest) are = (
  key_last rows writes table lo (one ∷ rest) rest one.0 one.1 are refl,
  last_left rows writes table (Excluded one.0) rest (left_next rows writes table lo (one ∷ rest) rest one.0 one.1 are refl),
)

last_filter : (p : Value × ℕ → Bool) (writes : List Write) (table : List ℕ) (keys : List (Value × ℕ)) → AreLast writes table keys → AreLast writes table (filter p keys)
last_filter p writes table [] are = tt
last_filter p writes table (one ∷ rest) are = by_test (p one) (last_filter p writes table rest are.1)
  where
    by_test : (b : Bool) → AreLast writes table (filter p rest) → AreLast writes table (cond b (one ∷ filter p rest) (filter p rest))
    by_test true more = (are.0, more)
    by_test false more = more

-- also those between two bounds
pub last_between : (rows : List PlainRow) (writes : List Write) (table : List ℕ) (lo hi : Bound Value) (keys : Keys) → IsStrictlySortedBy value_cmp (keys_of keys.entries)
    → ((q : Value) → place_in (Some keys) q ≡ last_at writes table q) → (left : List (Value × ℕ)) → left ≡ entries_between value_cmp lo hi keys.entries → AreLast writes table left
last_between rows writes table lo hi keys rising tells left left_is =
    subst (AreLast writes table) (sym left_is)
    (last_filter _ writes table keys.entries (last_left rows writes table Unbounded keys.entries (left_first rows writes table keys.entries rising tells)))

module _ (rows : List PlainRow) (ordered : AreTables rows) (writes : List Write) (table : List ℕ) where
  abbrev pub committed : Keyed
  committed = keyed_rows rows table

  abbrev pub seen : Keyed
  seen = keyed_rows (with_writes rows writes) table

  up_committed : Up (rows_at rows (place.Table table))
  up_committed = up_of table rows (AreTables-filter (is_at (place.Table table)) rows ordered)

  up_seen : Up (rows_at (with_writes rows writes) (place.Table table))
  up_seen = up_of table (with_writes rows writes) (AreTables-filter (is_at (place.Table table)) (with_writes rows writes) (AreTables-with_writes rows writes ordered))

  -- where nothing was written the committed row is seen
  pub seen_committed : (q : Value) → last_write writes table q ≡ None → keyed_of seen q ≡ keyed_of committed q
  seen_committed q none =
      same_row table q (keyed_of seen q) (keyed_of committed q)
      (sym (found_row table q (with_writes rows writes) up_seen) ∙ over_row rows table q writes ∙ ap (stands rows table q) none ∙ found_row table q rows up_committed)

  -- and else the row of the last write
  pub seen_written : (q : Value) (write : Write) → last_write writes table q ≡ Some write → keyed_of seen q ≡ write.row
  seen_written q write last =
      same_row table q (keyed_of seen q) write.row
      (sym (found_row table q (with_writes rows writes) up_seen) ∙ over_row rows table q writes ∙ ap (stands rows table q) last)

  -- the row of a key whose last write stands at a place
  pub seen_last : (key : Value) (at : ℕ) (write : Option Write) → last_at writes table key ≡ Some at → write ≡ slice_get writes at → keyed_of seen key ≡ option_and_then (λ (w : Write). w.row) write
  seen_last key at write last is =
      let one = got writes at (last_within table key writes at last) in
      seen_written key one.0 (ap (option_and_then (slice_get writes)) last ∙ one.1)
      ∙ sym (ap (λ o. option_and_then (λ (w : Write). w.row) o) (is ∙ one.1))

  values_seen : values_of seen ≡ seen_at (with_writes rows writes) (Some (place.Table table))
  values_seen = go (rows_at (with_writes rows writes) (place.Table table))
    where
      go : (l : List PlainRow) → values_of (map (λ one. (one.key, one.row)) l) ≡ map (λ one. one.row) l
      go [] = refl
      go (r ∷ rest) = ap (λ vs. r.row ∷ vs) (go rest)

  module _ (column : ℕ) (test : Test) (than : Value) where
    abbrev pub wanted : Keyed
    wanted = meeting column test than seen

    met_is : (row : Option (List Value)) → if_met column test than row ≡ option_filter (λ r. value_meets test than (slice_get r column)) row
    met_is None = refl
    met_is (Some row) = refl

    rise_wanted : KeysRise wanted
    rise_wanted = rise_filter (λ e. value_meets test than (slice_get e.1 column)) seen (rise_of (rows_at (with_writes rows writes) (place.Table table)) up_seen)

    wanted_at : (q : Value) → keyed_of wanted q ≡ option_filter (λ row. value_meets test than (slice_get row column)) (keyed_of seen q)
    wanted_at q = meeting_at column test than seen q (rise_of (rows_at (with_writes rows writes) (place.Table table)) up_seen)

    -- what is found is wanted, and what is wanted is found or has its key among those that are left
    pub record FoundBefore (left : List (Value × ℕ)) (found : Keyed) : Type 0 where
      pub part : (q : Value) (row : List Value) → keyed_of found q ≡ Some row → keyed_of wanted q ≡ Some row
      pub whole : (q : Value) → lookup (is_key (value_cmp q)) left ≡ None → keyed_of found q ≡ keyed_of wanted q

    -- no row is wanted whose key is not sought
    none_out : KeysFirst seen → (q : Value) → in_sought column test than q ≡ false → keyed_of wanted q ≡ None
    none_out firsts q out = wanted_at q ∙ by_row (keyed_of seen q) refl
      where
        by_row : (row : Option (List Value)) → keyed_of seen q ≡ row → option_filter (λ r. value_meets test than (slice_get r column)) row ≡ None
        by_row None e = refl
        by_row (Some row) e = ap (λ b. cond b (Some row) None) (sought_skips column test than q row (first_at seen q row firsts e) out)

    -- before the first key that is sought
    pub found_first : (keys : Keys) → ((q : Value) → place_in (Some keys) q ≡ last_at writes table q) → KeysFirst seen
        → (left : List (Value × ℕ)) → left ≡ entries_between value_cmp (keys_sought column test than).0 (keys_sought column test than).1 keys.entries
        → (found : Keyed) → found ≡ apart_from keys (meeting column test than committed) → FoundBefore left found
    found_first keys tells firsts left left_is found found_is = record {
      part = λ q row h. part q row h (cases_Bool (is_among keys q));
      whole = λ q none. whole q none (cases_Bool (in_sought column test than q));
    }
      where
        looked : (q : Value) → lookup (is_key (value_cmp q)) left ≡ cond (in_sought column test than q) (place_in (Some keys) q) None
        looked q =
            ap (λ (es : List (Value × ℕ)). lookup (is_key (value_cmp q)) es) left_is
            ∙ lookup-filter-keys (is_key (value_cmp q)) (in_sought column test than) (in_sought column test than q) (λ k same. ap (in_sought column test than) (sym (keys_equal q k same))) keys.entries

        found_at : (q : Value) → keyed_of found q ≡ cond (not (is_among keys q)) (keyed_of (meeting column test than committed) q) None
        found_at q = ap (λ (es : Keyed). keyed_of es q) found_is ∙ apart_at keys (meeting column test than committed) q

        alike : (q : Value) → place_in (Some keys) q ≡ None → keyed_of found q ≡ keyed_of wanted q
        alike q none =
            let last : last_write writes table q ≡ None = ap (option_and_then (slice_get writes)) (sym (tells q) ∙ none) in
            found_at q ∙ ap (λ o. cond (not (is_some o)) (keyed_of (meeting column test than committed) q) None) none
            ∙ meeting_at column test than committed q (rise_of (rows_at rows (place.Table table)) up_committed)
            ∙ ap (option_filter (λ row. value_meets test than (slice_get row column))) (sym (seen_committed q last)) ∙ sym (wanted_at q)

        none_of : (o : Option ℕ) → is_some o ≡ false → o ≡ None
        none_of None h = refl
        none_of (Some n) h = cc

        whole : (q : Value) → lookup (is_key (value_cmp q)) left ≡ None → (in_sought column test than q ≡ true) ⊎ (in_sought column test than q ≡ false) → keyed_of found q ≡ keyed_of wanted q
        whole q none (inl within) = alike q (sym (ap (λ b. cond b (place_in (Some keys) q) None) within) ∙ sym (looked q) ∙ none)
        whole q none (inr out) = by_place (place_in (Some keys) q) refl
          where
            by_place : (o : Option ℕ) → place_in (Some keys) q ≡ o → keyed_of found q ≡ keyed_of wanted q
            by_place None e = alike q e
            by_place (Some at) e = found_at q ∙ ap (λ o. cond (not (is_some o)) (keyed_of (meeting column test than committed) q) None) e ∙ sym (none_out firsts q out)

        part : (q : Value) (row : List Value) → keyed_of found q ≡ Some row → (is_among keys q ≡ true) ⊎ (is_among keys q ≡ false) → keyed_of wanted q ≡ Some row
        part q row h (inl among) =
            let never : None ≡ Some row = sym (found_at q ∙ ap (λ b. cond (not b) (keyed_of (meeting column test than committed) q) None) among) ∙ h in cc
        part q row h (inr free) = sym (alike q (none_of (place_in (Some keys) q) free)) ∙ h

    -- one key more
    module _ (left rest : List (Value × ℕ)) (key : Value) (at : ℕ) (found new : Keyed) (so_far : FoundBefore left found) (next : left ≡ (key, at) ∷ rest)
        (write : Option Write) (row_is : keyed_of seen key ≡ option_and_then (λ (w : Write). w.row) write)
        (put : (q : Value) → keyed_of new q ≡ with_own column test than (option_and_then (λ (w : Write). w.row) write) key (keyed_of found q) q) where
      not_found : (q : Value) → keyed_of wanted q ≡ None → keyed_of found q ≡ None
      not_found q none = by_row (keyed_of found q) refl
        where
          by_row : (o : Option (List Value)) → keyed_of found q ≡ o → o ≡ None
          by_row None h = refl
          by_row (Some row) h = let never : None ≡ Some row = sym none ∙ so_far.part q row h in cc

      at_key : (q : Value) → key ≡ q → keyed_of new q ≡ keyed_of wanted q
      at_key q same =
          put q ∙ ap (λ b. cond b (option_or (if_met column test than (option_and_then (λ (w : Write). w.row) write)) (keyed_of found q)) (keyed_of found q)) (keys_equal_if key q same)
          ∙ ap (λ o. option_or o (keyed_of found q)) is_wanted ∙ by_row (keyed_of wanted q) refl
        where
          is_wanted : if_met column test than (option_and_then (λ (w : Write). w.row) write) ≡ keyed_of wanted q
          is_wanted = met_is (option_and_then (λ (w : Write). w.row) write) ∙ ap (option_filter (λ row. value_meets test than (slice_get row column))) (sym row_is ∙ ap (keyed_of seen) same) ∙ sym (wanted_at q)

          by_row : (o : Option (List Value)) → keyed_of wanted q ≡ o → option_or o (keyed_of found q) ≡ o
          by_row None h = not_found q h
          by_row (Some row) h = refl

      elsewhere : (q : Value) → is_eq (value_cmp key q) ≡ false → keyed_of new q ≡ keyed_of found q
      elsewhere q away = put q ∙ ap (λ b. cond b (option_or (if_met column test than (option_and_then (λ (w : Write). w.row) write)) (keyed_of found q)) (keyed_of found q)) away

      pub found_next : FoundBefore rest new
      found_next = record {
        part = λ q row h. part q row h (cases_Bool (is_eq (value_cmp key q)));
        whole = λ q none. whole q none (cases_Bool (is_eq (value_cmp key q)));
      }
        where
          part : (q : Value) (row : List Value) → keyed_of new q ≡ Some row → (is_eq (value_cmp key q) ≡ true) ⊎ (is_eq (value_cmp key q) ≡ false) → keyed_of wanted q ≡ Some row
          part q row h (inl here) = sym (at_key q (keys_equal key q here)) ∙ h
          part q row h (inr away) = so_far.part q row (sym (elsewhere q away) ∙ h)

          whole : (q : Value) → lookup (is_key (value_cmp q)) rest ≡ None → (is_eq (value_cmp key q) ≡ true) ⊎ (is_eq (value_cmp key q) ≡ false) → keyed_of new q ≡ keyed_of wanted q
          whole q none (inl here) = at_key q (keys_equal key q here)
          whole q none (inr away) = elsewhere q away ∙ so_far.whole q (ap (λ (es : List (Value × ℕ)). lookup (is_key (value_cmp q)) es) next ∙ ap (λ b. cond b (Some at) (lookup (is_key (value_cmp q)) rest)) (back (cases_Bool (is_eq (value_cmp q key)))) ∙ none)
            where
              back : (is_eq (value_cmp q key) ≡ true) ⊎ (is_eq (value_cmp q key) ≡ false) → is_eq (value_cmp q key) ≡ false
              back (inl h) = let never : true ≡ false = sym (keys_equal_if key q (sym (keys_equal q key h))) ∙ away in cc
              back (inr h) = h

    -- ---- the answer

    abbrev answer_wanted : List (List Value)
    answer_wanted = selected column test than (seen_at (with_writes rows writes) (Some (place.Table table)))

    values_wanted : values_of wanted ≡ answer_wanted
    values_wanted = values_meeting column test than seen ∙ ap (selected column test than) values_seen

    refused : (l : List (List Value)) → 32 < length l → select_answer None ≡ limited l
    refused l over = let above : nat_lt 32 (length l) ≡ true = grind arith in sym (ap (λ b. cond b (select_answer None) (select_answer (Some l))) above)

    answered : (l m : List (List Value)) → l ≡ m → length l ≤ 32 → select_answer (Some l) ≡ limited m
    answered l m same fits = let below : nat_lt 32 (length l) ≡ false = grind arith in sym (ap (λ b. cond b (select_answer None) (select_answer (Some l))) below) ∙ ap limited same

    as_long : (entries : Keyed) → length (values_of entries) ≡ length entries
    as_long [] = refl
    as_long (e ∷ rest) = ap suc (as_long rest)

    -- more than are answered
    pub over_refused : (left : List (Value × ℕ)) (found : Keyed) → FoundBefore left found → KeysRise found → 32 < length found → select_answer None ≡ limited answer_wanted
    over_refused left found so_far rise over =
        let longer = no_longer found wanted rise so_far.part in
        let long : length (values_of wanted) ≡ length wanted = as_long wanted in
        refused (values_of wanted) (omega (arith, longer, long, over)) ∙ ap limited values_wanted

    -- more than are answered of the committed ones alone
    pub committed_refused : (keys : Keys) → ((q : Value) → place_in (Some keys) q ≡ last_at writes table q) → KeysFirst seen → None ≡ at_most_32 (apart_from keys (meeting column test than committed)) → select_answer None ≡ limited answer_wanted
    committed_refused keys tells firsts none =
        let sought = keys_sought column test than in
        let left = entries_between value_cmp sought.0 sought.1 keys.entries in
        let found = apart_from keys (meeting column test than committed) in
        let rise = rise_filter (λ e. not (is_among keys e.0)) (meeting column test than committed) (rise_filter (λ e. value_meets test than (slice_get e.1 column)) committed (rise_of (rows_at rows (place.Table table)) up_committed)) in
        over_refused left found (found_first keys tells firsts left refl found refl) rise (over_of found none)

    -- all of them
    pub all_answered : (left : List (Value × ℕ)) (found : Keyed) → FoundBefore left found → KeysRise found → left ≡ [] → length found ≤ 32 → select_answer (Some (values_of found)) ≡ limited answer_wanted
    all_answered left found so_far rise none fits =
        let same : found ≡ wanted = same_keyed found wanted rise rise_wanted (λ q. so_far.whole q (ap (λ (es : List (Value × ℕ)). lookup (is_key (value_cmp q)) es) none)) in
        let long : length (values_of found) ≡ length found = as_long found in
        answered (values_of found) answer_wanted (ap values_of same ∙ values_wanted) (omega (arith, long, fits))
