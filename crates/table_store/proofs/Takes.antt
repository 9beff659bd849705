-- Rows that are found one after the other.
use Rattle.std.proofs.Common.{◌≡◌, inl, inr, ℕ, suc, ◌+◌, get_or, drop, drop-cons, map, Bool, true, false, cond, List, [], ◌∷◌, ◌++◌, length, length-append, append_assoc, ◌<◌, ◌≤◌, arith, refl, sym, ◌∙◌, ap, subst}
use Rattle.std.specs.Prelude.{Option, Some, None, not, ◌&&◌, slice_get}
use Rattle.std.specs.Option.{option_or}
use Rattle.std.specs.Ordering.{is_eq}
use Rattle.std.specs.declared.cmp.Ordering.TheVariants.{Less}
use Rattle.std.specs.declared.ops.Bound.{Bound}
use Rattle.std.specs.List.{AllByRecursion}
use Rattle.std.specs.List.Sorted.{IsStrictlySortedBy}
use Rattle.std.specs.Map.{keys_of}
use Rattle.std.specs.BTreeMap.{BTreeMap, insert_entry}
use Rattle.std.specs.BTreeMap.Range.{entries_between}
use Rattle.std.proofs.lemmas.List.{length_push}
use Rattle.std.proofs.lemmas.List.Elements.{filter-append}
use Rattle.svc_values.proofs.Offered.{value_cmp_total}
use Rattle.std.proofs.lemmas.Bool.{cases_Bool}
use Rattle.svc_values.specs.declared.statement.Test.{Test}
use Rattle.svc_values.specs.declared.value.Value.{Value}
use Rattle.svc_values.specs.meaning.Order.{value_cmp}
use Rattle.svc_values.specs.meaning.Tests.{value_meets}
use Rattle.table_store.specs.declared.column_index.Spot.{Spot}
use Rattle.table_store.specs.declared.column_index.Spot.TheVariants as spot
use Rattle.table_store.specs.Blocks.{entries_in, rows_in}
use Rattle.table_store.specs.Given.{keyed}
use Rattle.table_store.specs.Indexes.{is_spot_of}
use Rattle.table_store.specs.Rows.{Keyed, KeysFirst, KeysRise, keyed_of}
use Rattle.table_store.specs.Selection.{apart_from, is_among, keys_sought, meeting}
use Rattle.table_store.proofs.Maps.{keys_equal, insert_last}
use Rattle.table_store.proofs.Picked.{rise_filter}
use Rattle.table_store.proofs.Placed.{between_both}
use Rattle.table_store.proofs.Sought.{meeting_sought}

-- ---- the row at a pair's key

-- what is found at a key once the row of a pair was put in
abbrev pub with_pair : Keyed → BTreeMap Value ℕ → Spot → Keyed → Value → Option (List Value)
with_pair rows but at found q = cond (is_spot_of at q && not (is_among but q)) (option_or (keyed_of rows q) (keyed_of found q)) (keyed_of found q)

module _ (rows : Keyed) (but : BTreeMap Value ℕ) (at : Spot) (found : Keyed) (key : Value) (is : at ≡ spot.At key) where
  at_key : (q : Value) → is_eq (value_cmp key q) ≡ true → is_spot_of at q ≡ true
  at_key q here = ap (λ s. is_spot_of s q) is ∙ here

  pub elsewhere : (q : Value) → is_eq (value_cmp key q) ≡ false → keyed_of found q ≡ with_pair rows but at found q
  elsewhere q away =
      let other : is_spot_of at q ≡ false = ap (λ s. is_spot_of s q) is ∙ away in rw other refl

  -- a key that is left out
  pub left_out : is_among but key ≡ true → (q : Value) → keyed_of found q ≡ with_pair rows but at found q
  left_out among q =
      elim (cases_Bool (is_eq (value_cmp key q))) [
        | inl here ↦
            let out : is_among but q ≡ true = subst (λ v. is_among but v ≡ true) (keys_equal key q here) among in rw (at_key q here, out) refl
        | inr away ↦ elsewhere q away
      ]

  -- a key without a row
  pub no_row : keyed_of rows key ≡ None → (q : Value) → keyed_of found q ≡ with_pair rows but at found q
  no_row none q =
      elim (cases_Bool (is_eq (value_cmp key q))) [
        | inl here ↦
            let none_there : keyed_of rows q ≡ None = subst (λ v. keyed_of rows v ≡ None) (keys_equal key q here) none in same (is_spot_of at q && not (is_among but q)) (keyed_of rows q) none_there q
        | inr away ↦ elsewhere q away
      ]
    where
      same : (b : Bool) (o : Option (List Value)) → o ≡ None → (v : Value) → keyed_of found v ≡ cond b (option_or o (keyed_of found v)) (keyed_of found v)
      same true o e v = rw e refl
      same false o e v = refl

  -- a key whose row is put in
  pub put_in : (new : Keyed) (row : List Value) → is_among but key ≡ false → keyed_of rows key ≡ Some row → ((q : Value) → keyed_of new q ≡ cond (is_eq (value_cmp key q)) (Some row) (keyed_of found q))
      → (q : Value) → keyed_of new q ≡ with_pair rows but at found q
  put_in new row apart there put q =
      elim (cases_Bool (is_eq (value_cmp key q))) [
        | inl here ↦
            let same : key ≡ q = keys_equal key q here in
            let free : is_among but q ≡ false = subst (λ v. is_among but v ≡ false) same apart in
            let row_there : keyed_of rows q ≡ Some row = subst (λ v. keyed_of rows v ≡ Some row) same there in
            put q ∙ ap (λ b. cond b (Some row) (keyed_of found q)) here ∙ rw (at_key q here, free, row_there) refl
        | inr away ↦ put q ∙ ap (λ b. cond b (Some row) (keyed_of found q)) away ∙ elsewhere q away
      ]

-- ---- the rows of a table in order

-- the rows that are wanted of some
abbrev pub wanted_of : BTreeMap Value ℕ → ℕ → Test → Value → Keyed → Keyed
wanted_of but column test than rows = apart_from but (meeting column test than rows)

-- those that are found and those that are left are all
pub record FoundUpTo (but : BTreeMap Value ℕ) (column : ℕ) (test : Test) (than : Value) (all left found : Keyed) : Type 0 where
  pub parts : found ++ wanted_of but column test than left ≡ all
  pub fits : length found ≤ 32
  pub rise : KeysRise all

-- before the first row of a table
pub found_none : (but : BTreeMap Value ℕ) (column : ℕ) (test : Test) (than : Value) (rows left found : Keyed) → KeysFirst rows → KeysRise rows → found ≡ []
    → entries_between value_cmp (keys_sought column test than).0 (keys_sought column test than).1 left ≡ entries_between value_cmp (keys_sought column test than).0 (keys_sought column test than).1 rows
    → FoundUpTo but column test than (wanted_of but column test than rows) (entries_between value_cmp (keys_sought column test than).0 (keys_sought column test than).1 left) found
found_none but column test than rows left found firsts rise none between = record {
  parts =
      ap (λ l. l ++ wanted_of but column test than (entries_between value_cmp (keys_sought column test than).0 (keys_sought column test than).1 left)) none
      ∙ ap (wanted_of but column test than) between ∙ ap (apart_from but) (meeting_sought column test than rows firsts);
  fits = subst (λ (l : Keyed). length l ≤ 32) (sym none) (omega arith);
  rise = rise_filter (λ e. not (is_among but e.0)) (meeting column test than rows) (rise_filter (λ e. value_meets test than (slice_get e.1 column)) rows rise);
}

-- the rows of a block between two ends, and those of the blocks behind it
pub block_next : (lo hi : Bound Value) (blocks : List (List (List Value))) (at : ℕ) (block part : List (List Value)) → block ≡ get_or blocks at block → at < length blocks
    → map keyed part ≡ entries_between value_cmp lo hi (map keyed block)
    → entries_between value_cmp lo hi (entries_in (drop at blocks)) ≡ map keyed part ++ entries_between value_cmp lo hi (entries_in (drop (at + 1) blocks))
block_next lo hi blocks at block part is within of_block =
    let one : suc at ≡ at + 1 = omega arith in
    ap (λ (l : List (List (List Value))). entries_between value_cmp lo hi (entries_in l)) (drop-cons blocks at block within)
    ∙ between_both lo hi (get_or blocks at block) (rows_in (drop (suc at) blocks))
    ∙ ap (λ (l : Keyed). l ++ entries_between value_cmp lo hi (entries_in (drop (suc at) blocks))) (ap (λ (l : List (List Value)). entries_between value_cmp lo hi (map keyed l)) (sym is) ∙ sym of_block)
    ∙ ap (λ (n : ℕ). map keyed part ++ entries_between value_cmp lo hi (entries_in (drop n blocks))) one

rise_front : (xs ys : Keyed) → KeysRise (xs ++ ys) → KeysRise xs
unfolding IsStrictlySortedBy
rise_front [] ys rise = tt
rise_front (x ∷ xs) ys rise = (front xs rise.0, rise_front xs ys rise.1)
  where
    front : (zs : Keyed) → AllByRecursion (λ k. value_cmp x.0 k ≡ Less) (keys_of (zs ++ ys)) → AllByRecursion (λ k. value_cmp x.0 k ≡ Less) (keys_of zs)
    front [] all = tt
    front (z ∷ zs) all = (all.0, front zs all.1)

module _ (but : BTreeMap Value ℕ) (column : ℕ) (test : Test) (than : Value) (all left found : Keyed) (so_far : FoundUpTo but column test than all left found) where
  abbrev wanted : Keyed → Keyed
  wanted entries = wanted_of but column test than entries

  -- the rows of a block, which come before the others that are left
  module _ (front rest : Keyed) (next : left ≡ front ++ rest) where
    parted : (found ++ wanted front) ++ wanted rest ≡ all
    parted =
        append_assoc found (wanted front) (wanted rest)
        ∙ ap (λ l. found ++ l) (sym (filter-append _ (meeting column test than front) (meeting column test than rest)) ∙ ap (apart_from but) (sym (filter-append _ front rest)) ∙ ap wanted (sym next))
        ∙ so_far.parts

    pub front_rises : KeysRise (found ++ wanted front)
    front_rises = rise_front (found ++ wanted front) (wanted rest) (subst KeysRise (sym parted) so_far.rise)

  module _ (rest : Keyed) (key : Value) (row : List Value) (next : left ≡ (key, row) ∷ rest) where
    wanted_next : (b c : Bool) → value_meets test than (slice_get row column) ≡ b → is_among but key ≡ c → wanted left ≡ cond (b && not c) ((key, row) ∷ wanted rest) (wanted rest)
    wanted_next true c meets among =
        ap wanted next ∙ ap (λ b. apart_from but (cond b ((key, row) ∷ meeting column test than rest) (meeting column test than rest))) meets
        ∙ ap (λ d. cond (not d) ((key, row) ∷ wanted rest) (wanted rest)) among
    wanted_next false c meets among =
        ap wanted next ∙ ap (λ b. apart_from but (cond b ((key, row) ∷ meeting column test than rest) (meeting column test than rest))) meets

    split : value_meets test than (slice_get row column) ≡ true → is_among but key ≡ false → found ++ (key, row) ∷ wanted rest ≡ all
    split meets among = ap (λ l. found ++ l) (sym (wanted_next true false meets among)) ∙ so_far.parts

    pub found_more : (new : Keyed) → value_meets test than (slice_get row column) ≡ true → is_among but key ≡ false → length found < 32 → new ≡ insert_entry value_cmp found key row
        → FoundUpTo but column test than all rest new
    found_more new meets among room put =
        let last : new ≡ found ++ (key, row) ∷ [] = put ∙ insert_last value_cmp_total found key row (wanted rest) (subst KeysRise (sym (split meets among)) so_far.rise) in
        record {
          parts = ap (λ l. l ++ wanted rest) last ∙ append_assoc found ((key, row) ∷ []) (wanted rest) ∙ split meets among;
          fits = subst (λ (l : Keyed). length l ≤ 32) (sym last) (rw length_push (omega (arith, room)));
          rise = so_far.rise;
        }

    -- one more than are answered
    pub found_over : value_meets test than (slice_get row column) ≡ true → is_among but key ≡ false → 32 ≤ length found → 32 < length all
    found_over meets among many = subst (λ (l : Keyed). 32 < length l) (split meets among) (omega (arith, many, length-append found ((key, row) ∷ wanted rest)))

    pub found_skips : (b c : Bool) → value_meets test than (slice_get row column) ≡ b → is_among but key ≡ c → (b && not c) ≡ false → FoundUpTo but column test than all rest found
    found_skips b c meets among out = record {
      parts = ap (λ l. found ++ l) (sym (wanted_next b c meets among ∙ ap (λ d. cond d ((key, row) ∷ wanted rest) (wanted rest)) out)) ∙ so_far.parts;
      fits = so_far.fits;
      rise = so_far.rise;
    }
