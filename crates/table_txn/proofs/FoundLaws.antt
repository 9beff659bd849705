-- What is kept of places, as readings.
use Rattle.std.proofs.Common.{◌≡◌, ◌⊎◌, inl, inr, ℕ, Bool, true, false, not, cond, List, [], ◌∷◌, get_or, refl, sym, ap, ◌∙◌, subst}
use Rattle.std.specs.Prelude.{Option, Some, None, IsSome, IfSome, IsTrue, option_map, ◌&&◌, ◌||◌}
use Rattle.std.specs.List.{All, AllByRecursion}
use Rattle.std.proofs.lemmas.List.Elements.{All-map, recursion_from_All}
use Rattle.std.specs.BTreeMap.{BTreeMap, WritesThrough, is_at, insert_entry}
use Rattle.std.specs.Map.{lookup, set_value}
use Rattle.std.specs.declared.cmp.Ordering.{Ordering}
use Rattle.std.specs.declared.cmp.Ordering.TheVariants.{Less, Equal, Greater}
use Rattle.std.specs.Ordering.{is_eq, match_ordering}
use Rattle.std.specs.Cmp.Lexicographic.{pointwise}
use Rattle.std.specs.Str.{bytes_eq}
use Rattle.std.proofs.lemmas.Bool.{cases_Bool}
use Rattle.svc_values.specs.declared.value.Value.{Value}
use Rattle.svc_values.specs.meaning.Same.{same_value, same_row, same_rows}
use Rattle.svc_values.specs.Same.{same_place}
use Rattle.svc_values.specs.SameLaws.{bytes_decide, same_value_decides}
use Rattle.svc_values.specs.declared.tables.PlainRow.{PlainRow}
use Rattle.svc_values.specs.declared.tables.Place.{Place}
use Rattle.svc_values.specs.declared.tables.Place.TheVariants as place
use Rattle.svc_values.specs.Tables.{place_cmp}
use Rattle.svc_values.specs.meaning.Tables.{rows_at}
use Rattle.table_store.specs.Rows.{Keyed, plain_rows, row_if_any}
use Rattle.table_txn.specs.declared.found.Found.{Found}
use Rattle.table_txn.specs.declared.found.Found.TheVariants as found
use Rattle.table_txn.specs.declared.readings.ReadPlace.{ReadPlace}
use Rattle.table_txn.specs.Readings.{Reading, reading_of, read_more, HasRead, HasStood, StandWhere, AreApart, first_changed, has_changed, table_in}
use Rattle.table_store.specs.Rows.{same_keyed}
use Rattle.table_txn.specs.Found.{is_for, found_rows, same_optional, same_found, IsFoundAt, reading, readings_of, are_for, IsRead}
use Rattle.table_txn.proofs.Same.{both, both_if, cmp_place_is, same_place_decides, same_place_sym}

-- ---- what is compared as the same

true_and : (a b : Bool) → a ≡ true → (a && b) ≡ b
true_and a b h = ap (λ x. x && b) h

and_true : (b : Bool) → b ≡ (b && true)
and_true true = refl
and_true false = refl

same_plain : (table : List ℕ) (key l : Value) (a b : List Value) → same_row (record { table = table; key = key; row = a }) (record { table = table; key = l; row = b }) ≡ (same_value key l && pointwise same_value a b)
same_plain table key l a b = true_and (bytes_eq table table) (same_value key l && pointwise same_value a b) ((bytes_decide table table).1 refl)

same_rows_of : (table : List ℕ) (key : Value) (a b : Option (List Value)) → same_optional a b ≡ same_rows (row_if_any table key a) (row_if_any table key b)
same_rows_of table key None None = refl
same_rows_of table key None (Some b) = refl
same_rows_of table key (Some a) None = refl
same_rows_of table key (Some a) (Some b) =
    and_true (pointwise same_value a b)
    ∙ ap (λ x. x && true) (sym (same_plain table key key a b ∙ true_and (same_value key key) (pointwise same_value a b) ((same_value_decides key key).1 refl)))

same_tables_of : (table : List ℕ) (a b : Keyed) → same_keyed a b ≡ same_rows (plain_rows table a) (plain_rows table b)
same_tables_of table [] [] = refl
same_tables_of table [] (y ∷ ys) = refl
same_tables_of table (x ∷ xs) [] = refl
same_tables_of table (x ∷ xs) (y ∷ ys) =
    ap (λ b. (same_value x.0 y.0 && pointwise same_value x.1 y.1) && b) (same_tables_of table xs ys)
    ∙ ap (λ b. b && same_rows (plain_rows table xs) (plain_rows table ys)) (sym (same_plain table x.0 y.0 x.1 y.1))

-- what is kept of one place is the same where its rows are
pub same_found_is : (at : Place) (a b : Found) → is_for at a ≡ true → is_for at b ≡ true → same_found a b ≡ same_rows (found_rows at a) (found_rows at b)
same_found_is (place.Row table key) (found.Row a) (found.Row b) h k = same_rows_of table key a b
same_found_is (place.Row table key) (found.Row a) (found.Table b) h k = cc
same_found_is (place.Row table key) (found.Table a) b h k = cc
same_found_is (place.Table table) (found.Row a) b h k = cc
same_found_is (place.Table table) (found.Table a) (found.Row b) h k = cc
same_found_is (place.Table table) (found.Table a) (found.Table b) h k = same_tables_of table a b

-- ---- readings by their maps

abbrev pub Entries : Type 0
Entries = List (Place × ReadPlace)

abbrev pub looked_up : Entries → Place → Option ReadPlace
looked_up entries q = lookup (is_at (place_cmp q)) entries

at_key : (q p : Place) → is_at (place_cmp q) p ≡ same_place p q
at_key q p = cmp_place_is q p ∙ same_place_sym q p

-- the reading of a place is that of its entry
pub reading_of-lookup : (entries : Entries) (q : Place) → reading_of (readings_of entries) q ≡ option_map (λ one. reading (q, one)) (looked_up entries q)
reading_of-lookup [] q = refl
reading_of-lookup (entry ∷ rest) q = by_place (reading_of-lookup rest q) (cases_Bool (same_place entry.0 q))
  where
    by_place : reading_of (readings_of rest) q ≡ option_map (λ one. reading (q, one)) (looked_up rest q) → (same_place entry.0 q ≡ true) ⊎ (same_place entry.0 q ≡ false) → reading_of (readings_of (entry ∷ rest)) q ≡ option_map (λ one. reading (q, one)) (looked_up (entry ∷ rest) q)
    by_place others (inl here) =
        let same : entry.0 ≡ q = (same_place_decides entry.0 q).0 here in
        ap (λ b. cond b (Some (reading entry)) (reading_of (readings_of rest) q)) here
        ∙ ap (λ (p : Place). Some (reading (p, entry.1))) same
        ∙ sym (ap (λ b. option_map (λ one. reading (q, one)) (cond b (Some entry.1) (looked_up rest q))) (at_key q entry.0 ∙ here))
    by_place others (inr apart) =
        ap (λ b. cond b (Some (reading entry)) (reading_of (readings_of rest) q)) apart
        ∙ others
        ∙ sym (ap (λ b. option_map (λ one. reading (q, one)) (cond b (Some entry.1) (looked_up rest q))) (at_key q entry.0 ∙ apart))

-- a change of one entry
pub has_read : (old new : Entries) (at : Place) (one : ReadPlace) (what : Found) → ((q : Place) → looked_up new q ≡ cond (is_at (place_cmp at) q) (Some one) (looked_up old q))
    → Some (reading (at, one)) ≡ Some (read_more (reading_of (readings_of old) at) at (found_rows at what)) → HasRead (readings_of old) at (found_rows at what) (readings_of new)
has_read old new at one what changed is q = by_place (cases_Bool (same_place at q))
  where
    made : Reading
    made = read_more (reading_of (readings_of old) at) at (found_rows at what)

    there : reading_of (readings_of new) q ≡ option_map (λ n. reading (q, n)) (cond (same_place at q) (Some one) (looked_up old q))
    there = reading_of-lookup new q ∙ ap (option_map (λ n. reading (q, n))) (changed q ∙ ap (λ b. cond b (Some one) (looked_up old q)) (cmp_place_is at q))

    by_place : (same_place at q ≡ true) ⊎ (same_place at q ≡ false) → reading_of (readings_of new) q ≡ cond (same_place at q) (Some made) (reading_of (readings_of old) q)
    by_place (inl here) =
        let same : at ≡ q = (same_place_decides at q).0 here in
        there ∙ ap (λ b. option_map (λ n. reading (q, n)) (cond b (Some one) (looked_up old q))) here
        ∙ ap (λ (p : Place). Some (reading (p, one))) (sym same) ∙ is
        ∙ sym (ap (λ b. cond b (Some made) (reading_of (readings_of old) q)) here)
    by_place (inr apart) =
        there ∙ ap (λ b. option_map (λ n. reading (q, n)) (cond b (Some one) (looked_up old q))) apart
        ∙ sym (reading_of-lookup old q)
        ∙ sym (ap (λ b. cond b (Some made) (reading_of (readings_of old) q)) apart)

-- ---- each reading has what its place may have

abbrev fits : Place × ReadPlace → Bool
fits entry = is_for entry.0 entry.1.found

lookup_fits : (entries : Entries) (at : Place) (one : ReadPlace) → are_for entries ≡ true → looked_up entries at ≡ Some one → is_for at one.found ≡ true
lookup_fits [] at one all there = cc
lookup_fits (entry ∷ rest) at one all there = by_place (lookup_fits rest at one) (cases_Bool (is_at (place_cmp at) entry.0))
  where
    parts : (fits entry ≡ true) × (are_for rest ≡ true)
    parts = both (fits entry) (are_for rest) all

    some_inj : (a b : ReadPlace) → ◌≡◌ {A = Option ReadPlace} (Some a) (Some b) → a ≡ b
    some_inj a b e = cc

    by_place : (are_for rest ≡ true → looked_up rest at ≡ Some one → is_for at one.found ≡ true) → (is_at (place_cmp at) entry.0 ≡ true) ⊎ (is_at (place_cmp at) entry.0 ≡ false) → is_for at one.found ≡ true
    by_place others (inl here) =
        let same : entry.0 ≡ at = (same_place_decides entry.0 at).0 (sym (at_key at entry.0) ∙ here) in
        let is : entry.1 ≡ one = some_inj entry.1 one (sym (ap (λ b. cond b (Some entry.1) (looked_up rest at)) here) ∙ there) in
        subst (λ (p : Place). is_for p one.found ≡ true) same (subst (λ (n : ReadPlace). is_for entry.0 n.found ≡ true) is parts.0)
    by_place others (inr apart) = others parts.1 (sym (ap (λ b. cond b (Some entry.1) (looked_up rest at)) apart) ∙ there)

set_fits : (entries : Entries) (at : Place) (one : ReadPlace) → are_for entries ≡ true → is_for at one.found ≡ true → are_for (set_value (is_at (place_cmp at)) entries one) ≡ true
set_fits [] at one all here = refl
set_fits (entry ∷ rest) at one all fit = by_place (λ h. set_fits rest at one h fit) (cases_Bool (is_at (place_cmp at) entry.0))
  where
    parts : (fits entry ≡ true) × (are_for rest ≡ true)
    parts = both (fits entry) (are_for rest) all

    by_place : (are_for rest ≡ true → are_for (set_value (is_at (place_cmp at)) rest one) ≡ true) → (is_at (place_cmp at) entry.0 ≡ true) ⊎ (is_at (place_cmp at) entry.0 ≡ false) → are_for (set_value (is_at (place_cmp at)) (entry ∷ rest) one) ≡ true
    by_place others (inl here) =
        let same : entry.0 ≡ at = (same_place_decides entry.0 at).0 (sym (at_key at entry.0) ∙ here) in
        ap (λ b. are_for (cond b ((entry.0, one) ∷ rest) (entry ∷ set_value (is_at (place_cmp at)) rest one))) here
        ∙ both_if (is_for entry.0 one.found) (are_for rest) (subst (λ (p : Place). is_for p one.found ≡ true) (sym same) fit) parts.1
    by_place others (inr apart) =
        ap (λ b. are_for (cond b ((entry.0, one) ∷ rest) (entry ∷ set_value (is_at (place_cmp at)) rest one))) apart
        ∙ both_if (fits entry) (are_for (set_value (is_at (place_cmp at)) rest one)) parts.0 (others parts.1)

pub insert_fits : (entries : Entries) (at : Place) (one : ReadPlace) → are_for entries ≡ true → is_for at one.found ≡ true → are_for (insert_entry place_cmp entries at one) ≡ true
insert_fits [] at one all fit = both_if (is_for at one.found) true fit refl
insert_fits (entry ∷ rest) at one all fit = by_order (λ h. insert_fits rest at one h fit) (place_cmp at entry.0) refl
  where
    parts : (fits entry ≡ true) × (are_for rest ≡ true)
    parts = both (fits entry) (are_for rest) all

    by_order : (are_for rest ≡ true → are_for (insert_entry place_cmp rest at one) ≡ true) → (o : Ordering) → place_cmp at entry.0 ≡ o → are_for (match_ordering o ((at, one) ∷ entry ∷ rest) ((entry.0, one) ∷ rest) (entry ∷ insert_entry place_cmp rest at one)) ≡ true
    by_order others Less e = both_if (is_for at one.found) (are_for (entry ∷ rest)) fit all
    by_order others Equal e =
        let same : entry.0 ≡ at = (same_place_decides entry.0 at).0 (sym (at_key at entry.0) ∙ ap is_eq e) in
        both_if (is_for entry.0 one.found) (are_for rest) (subst (λ (p : Place). is_for p one.found ≡ true) (sym same) fit) parts.1
    by_order others Greater e = both_if (fits entry) (are_for (insert_entry place_cmp rest at one)) parts.0 (others parts.1)

-- ---- one more read

-- of a place that was read_more before
pub again_read : (old new : BTreeMap Place ReadPlace) (at : Place) (there one : ReadPlace) (what : Found) → are_for old.entries ≡ true → is_for at what ≡ true → Some there ≡ looked_up old.entries at
    → one ≡ record { found = there.found; is_torn = there.is_torn || not (same_found there.found what) } → WritesThrough place_cmp (place_cmp at) old one new → IsRead old.entries at what new.entries
again_read old new at there one what all kind found is written = record {
  has = has_read old.entries new.entries at one what ((written.3 (subst IsSome found refl)).0)
      (ap (λ (n : ReadPlace). Some (reading (at, n))) is
      ∙ ap (λ b. Some (record { at = at; found = found_rows at there.found; is_torn = there.is_torn || not b })) (same_found_is at there.found what fit kind)
      ∙ sym (ap (λ o. Some (read_more o at (found_rows at what))) (reading_of-lookup old.entries at ∙ ap (option_map (λ n. reading (at, n))) (sym found))));
  kinds = ap are_for written.0 ∙ set_fits old.entries at one all (ap (λ (n : ReadPlace). is_for at n.found) is ∙ fit);
}
  where
    fit : is_for at there.found ≡ true
    fit = lookup_fits old.entries at there all (sym found)

-- of a place without a reading
pub not_read : (old : Entries) (at : Place) → None ≡ looked_up old at → reading_of (readings_of old) at ≡ None
not_read old at away = reading_of-lookup old at ∙ ap (option_map (λ n. reading (at, n))) (sym away)

-- ---- the first that has changed

-- a reading that was looked at
pub changed_is : (rows : List PlainRow) (at : Place) (one : ReadPlace) (what : Found) → is_for at one.found ≡ true → IsFoundAt rows at what
    → (one.is_torn || not (same_found one.found what)) ≡ ((reading (at, one)).is_torn || not (same_rows (reading (at, one)).found (rows_at rows at)))
changed_is rows at one what fit stands = ap (λ b. one.is_torn || not b) (same_found_is at one.found what fit stands.kind ∙ ap (same_rows (found_rows at one.found)) (sym stands.stands))

pub changed_here : (rows : List PlainRow) (entries rest : Entries) (at : Place) (one : ReadPlace) → entries ≡ (at, one) ∷ rest
    → (b : Bool) → b ≡ has_changed rows (reading (at, one)) → first_changed rows (readings_of entries) ≡ cond b (Some at) (first_changed rows (readings_of rest))
changed_here rows entries rest at one is b tested =
    ap (λ l. first_changed rows (readings_of l)) is ∙ ap (λ c. cond c (Some at) (first_changed rows (readings_of rest))) (sym tested)

pub first_fits : (entries rest : Entries) (at : Place) (one : ReadPlace) → entries ≡ (at, one) ∷ rest → are_for entries ≡ true → is_for at one.found ≡ true
first_fits entries rest at one is all = (both (is_for at one.found) (are_for rest) (sym (ap are_for is) ∙ all)).0

pub rest_fits : (entries rest : Entries) (at : Place) (one : ReadPlace) → entries ≡ (at, one) ∷ rest → are_for entries ≡ true → are_for rest ≡ true
rest_fits entries rest at one is all = (both (is_for at one.found) (are_for rest) (sym (ap are_for is) ∙ all)).1

-- no place has two entries
pub entries_apart : (entries : Entries) → All (λ e. looked_up entries e.0 ≡ Some e.1) entries → AreApart (readings_of entries)
entries_apart entries all = All-map (λ n. reading_of (readings_of entries) n.at ≡ Some n) reading entries (λ k d lt. reading_of-lookup entries (get_or entries k d).0 ∙ ap (option_map (λ one. reading ((get_or entries k d).0, one))) (all k d lt))

-- each entry in a known table has what it had
abbrev pub EachStood : (List ℕ → Bool) → List PlainRow → Entries → Type 0
EachStood known rows entries = AllByRecursion (λ entry. IsTrue (known (table_in entry.0)) → HasStood rows (reading entry)) entries

pub each_stood : (known : List ℕ → Bool) (rows : List PlainRow) (entries : Entries) → All (λ e. looked_up entries e.0 ≡ Some e.1) entries → StandWhere known rows (readings_of entries) → EachStood known rows entries
each_stood known rows entries all stand = recursion_from_All (λ entry. IsTrue (known (table_in entry.0)) → HasStood rows (reading entry)) entries (λ k d lt. at_entry (get_or entries k d) (all k d lt))
  where
    at_entry : (entry : Place × ReadPlace) → looked_up entries entry.0 ≡ Some entry.1 → IsTrue (known (table_in entry.0)) → HasStood rows (reading entry)
    at_entry entry there is_known = subst (λ (o : Option Reading). IfSome o (λ one. (one.is_torn ≡ false) × (one.found ≡ rows_at rows entry.0))) (reading_of-lookup entries entry.0 ∙ ap (option_map (λ one. reading (entry.0, one))) there) (stand entry.0 is_known)
