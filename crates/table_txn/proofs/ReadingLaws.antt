-- Readings and the reads that they stand for.
use Rattle.std.proofs.Common.{◌≡◌, ◌⊎◌, inl, inr, zero, suc, Bool, true, false, not, cond, List, [], ◌∷◌, ◌++◌, refl, sym, ap, ◌∙◌, subst, arith}
use Rattle.std.specs.Prelude.{Option, Some, None, ◌↔◌, ◌||◌, filter, map, option_to_list}
use Rattle.std.specs.List.{All, AllByRecursion, Contains}
use Rattle.std.proofs.lemmas.Bool.{cases_Bool}
use Rattle.std.proofs.lemmas.List.{map-append}
use Rattle.std.proofs.lemmas.List.Elements.{filter-append, All-from_recursion, recursion_from_All, Contains-get_or}
use Rattle.svc_values.specs.declared.tables.PlainRow.{PlainRow}
use Rattle.svc_values.specs.declared.tables.Place.{Place}
use Rattle.svc_values.specs.meaning.Tables.{rows_at}
use Rattle.svc_values.specs.meaning.Same.{same_rows}
use Rattle.svc_values.specs.Same.{same_place}
use Rattle.stmt_meaning.specs.meaning.Reads.{Read, read_at, reads_at}
use Rattle.stmt_meaning.specs.Reads.{IsConflict}
use Rattle.table_txn.specs.Readings.{Reading, found_at, reading_of, IsReadingOf, AreReadings, read_more, HasRead, HasReadIfAny, AreApart, first_changed}
use Rattle.table_txn.proofs.Same.{same_place_decides, same_rows_decide}

abbrev Found : Type 0
Found = List PlainRow

-- ---- one more read

or_parts : (a b : Bool) → (a || b) ≡ false → (a ≡ false) × (b ≡ false)
or_parts true b h = cc
or_parts false b h = (refl, h)

pub or_none : (a b : Bool) → a ≡ false → b ≡ false → (a || b) ≡ false
or_none true b h k = cc
or_none false b h k = k

un_not : (b : Bool) → not b ≡ false → b ≡ true
un_not true h = refl
un_not false h = cc

all_push : (P : Found → Type 0) (xs : List Found) (x : Found) → AllByRecursion P xs → P x → AllByRecursion P (xs ++ x ∷ [])
all_push P [] x all here = (here, tt)
all_push P (y ∷ ys) x all here = (all.0, all_push P ys x all.1 here)

all_split : (P : Found → Type 0) (xs : List Found) (x : Found) → AllByRecursion P (xs ++ x ∷ []) → AllByRecursion P xs × P x
all_split P [] x all = (tt, all.0)
all_split P (y ∷ ys) x all = let more = all_split P ys x all.1 in ((all.0, more.0), more.1)

is_first : Found → Found → Type 0
is_first first what = what ≡ first

torn_more : (reading : Reading) (first what : Found) (later : List Found) → reading.found ≡ first → (reading.is_torn ≡ false) ↔ All (λ found. found ≡ first) later
    → ((reading.is_torn || not (same_rows reading.found what)) ≡ false) ↔ All (λ found. found ≡ first) (later ++ what ∷ [])
torn_more reading first what later is torn =
    let same = same_rows_decide reading.found what in
    let P : Found → Type 0 = λ f. f ≡ first in (
      λ h.
          let parts = or_parts reading.is_torn (not (same_rows reading.found what)) h in
          All-from_recursion P (later ++ what ∷ []) (all_push P later what (recursion_from_All P later (torn.0 parts.0)) (sym (same.0 (un_not (same_rows reading.found what) parts.1)) ∙ is)),
      λ all.
          let parts = all_split P later what (recursion_from_All P (later ++ what ∷ []) all) in
          or_none reading.is_torn (not (same_rows reading.found what)) (torn.1 (All-from_recursion P later parts.0)) (ap not (same.1 (is ∙ sym parts.1))),
    )

reading_more : (o : Option Reading) (founds : List Found) (at : Place) (what : Found) → IsReadingOf o founds → IsReadingOf (Some (read_more o at what)) (founds ++ what ∷ [])
reading_more None [] at what is = (refl, (λ h. All-from_recursion (λ (f : Found). f ≡ what) [] tt, λ h. refl))
reading_more None (first ∷ later) at what is = absurd is
reading_more (Some reading) [] at what is = absurd is
reading_more (Some reading) (first ∷ later) at what is = (is.0, torn_more reading first what later is.0 is.1)

found_push : (q : Place) (reads : List Read) (read : Read) → found_at q (reads ++ read ∷ []) ≡ cond (same_place read.at q) (found_at q reads ++ read.found ∷ []) (found_at q reads)
found_push q reads read =
    ap (map (λ r. r.found)) (filter-append (λ r. same_place r.at q) reads (read ∷ []))
    ∙ map-append (λ (r : Read). r.found) (filter (λ r. same_place r.at q) reads) (filter (λ r. same_place r.at q) (read ∷ []))
    ∙ by_place (same_place read.at q)
  where
    by_place : (b : Bool) → found_at q reads ++ map (λ r. r.found) (cond b (read ∷ []) []) ≡ cond b (found_at q reads ++ read.found ∷ []) (found_at q reads)
    by_place true = refl
    by_place false = nothing (found_at q reads)
      where
        nothing : (l : List Found) → l ++ [] ≡ l
        nothing [] = refl
        nothing (x ∷ xs) = ap (λ l. x ∷ l) (nothing xs)

pub readings_more : (old new : List Reading) (rows : List PlainRow) (at : Place) (reads : List Read) → HasRead old at (rows_at rows at) new → AreReadings old reads → AreReadings new (reads ++ read_at rows at ∷ [])
readings_more old new rows at reads has are q = by_place (cases_Bool (same_place at q))
  where
    what : Found
    what = rows_at rows at

    together : (b : Bool) → same_place at q ≡ b → IsReadingOf (cond b (Some (read_more (reading_of old at) at what)) (reading_of old q)) (cond b (found_at q reads ++ what ∷ []) (found_at q reads)) → IsReadingOf (reading_of new q) (found_at q (reads ++ read_at rows at ∷ []))
    together b e is =
        subst (λ o. IsReadingOf o (found_at q (reads ++ read_at rows at ∷ []))) (sym (has q ∙ ap (λ c. cond c (Some (read_more (reading_of old at) at what)) (reading_of old q)) e))
        (subst (IsReadingOf (cond b (Some (read_more (reading_of old at) at what)) (reading_of old q))) (sym (found_push q reads (read_at rows at) ∙ ap (λ c. cond c (found_at q reads ++ what ∷ []) (found_at q reads)) e)) is)

    by_place : (same_place at q ≡ true) ⊎ (same_place at q ≡ false) → IsReadingOf (reading_of new q) (found_at q (reads ++ read_at rows at ∷ []))
    by_place (inl here) =
        let same : at ≡ q = (same_place_decides at q).0 here in
        together true here (subst (λ (p : Place). IsReadingOf (Some (read_more (reading_of old at) at what)) (found_at p reads ++ what ∷ [])) same (reading_more (reading_of old at) (found_at at reads) at what (are at)))
    by_place (inr apart) = together false apart (are q)

nil_behind : (reads : List Read) → reads ≡ reads ++ []
nil_behind [] = refl
nil_behind (read ∷ reads) = ap (λ l. read ∷ l) (nil_behind reads)

-- after a statement that read a place, or none
pub readings_after : (rows : List PlainRow) (old new : List Reading) (at : Option Place) → HasReadIfAny rows old at new → (reads : List Read) → AreReadings old reads → AreReadings new (reads ++ reads_at rows (option_to_list at))
readings_after rows old new None same reads are = subst (AreReadings new) (nil_behind reads) (subst (λ n. AreReadings n reads) (sym same) are)
readings_after rows old new (Some at) has reads are = readings_more old new rows at reads has are

-- ---- conflicts

contains_cons : {X : Type 0} (y x : X) (xs : List X) → Contains xs x → Contains (y ∷ xs) x
contains_cons y x xs (k, lt, e) = (suc k, omega arith, e)

contains_first : {X : Type 0} (x : X) (xs : List X) → Contains (x ∷ xs) x
contains_first x xs = (0, omega arith, refl)

some_inj : (a b : Reading) → ◌≡◌ {A = Option Reading} (Some a) (Some b) → a ≡ b
some_inj a b e = cc

-- where nothing has changed, each reading is whole and has what is there now
none_changed : (now : List PlainRow) (readings : List Reading) (at : Place) (reading : Reading) → first_changed now readings ≡ None → reading_of readings at ≡ Some reading → (reading.is_torn ≡ false) × (reading.found ≡ rows_at now at)
none_changed now [] at reading none there = cc
none_changed now (one ∷ rest) at reading none there = by_change (none_changed now rest at reading) (one.is_torn || not (same_rows one.found (rows_at now one.at))) refl none
  where
    by_change : (first_changed now rest ≡ None → reading_of rest at ≡ Some reading → (reading.is_torn ≡ false) × (reading.found ≡ rows_at now at)) → (b : Bool) → (one.is_torn || not (same_rows one.found (rows_at now one.at))) ≡ b
        → cond b (Some one.at) (first_changed now rest) ≡ None → (reading.is_torn ≡ false) × (reading.found ≡ rows_at now at)
    by_change others true e h = cc
    by_change others false e h = by_place (cases_Bool (same_place one.at at))
      where
        by_place : (same_place one.at at ≡ true) ⊎ (same_place one.at at ≡ false) → (reading.is_torn ≡ false) × (reading.found ≡ rows_at now at)
        by_place (inl here) =
            let same : one.at ≡ at = (same_place_decides one.at at).0 here in
            let is : one ≡ reading = some_inj one reading (sym (ap (λ b. cond b (Some one) (reading_of rest at)) here) ∙ there) in
            let parts = or_parts one.is_torn (not (same_rows one.found (rows_at now one.at))) e in
            let found : one.found ≡ rows_at now one.at = (same_rows_decide one.found (rows_at now one.at)).0 (un_not (same_rows one.found (rows_at now one.at)) parts.1) in
            (ap (λ (n : Reading). n.is_torn) (sym is) ∙ parts.0, ap (λ (n : Reading). n.found) (sym is) ∙ found ∙ ap (rows_at now) same)
        by_place (inr apart) = others h (sym (ap (λ b. cond b (Some one) (reading_of rest at)) apart) ∙ there)

-- what a read found is among what was found at its place
found_of : (reads : List Read) (read : Read) → Contains reads read → Contains (found_at read.at reads) read.found
found_of [] read (k, lt, e) = absurd (omega arith)
found_of (first ∷ rest) read (zero, lt, e) =
    let here : same_place first.at read.at ≡ true = (same_place_decides first.at read.at).1 (ap (λ (r : Read). r.at) e) in
    subst (λ b. Contains (map (λ r. r.found) (cond b (first ∷ filter (λ r. same_place r.at read.at) rest) (filter (λ r. same_place r.at read.at) rest))) read.found) (sym here)
    (subst (λ f. Contains (f ∷ found_at read.at rest) read.found) (sym (ap (λ (r : Read). r.found) e)) (contains_first read.found (found_at read.at rest)))
found_of (first ∷ rest) read (suc k, lt, e) = by_place (same_place first.at read.at) (found_of rest read (k, omega arith, e))
  where
    by_place : (b : Bool) → Contains (found_at read.at rest) read.found → Contains (map (λ r. r.found) (cond b (first ∷ filter (λ r. same_place r.at read.at) rest) (filter (λ r. same_place r.at read.at) rest))) read.found
    by_place true there = contains_cons first.found read.found (found_at read.at rest) there
    by_place false there = there

-- each of what was found is the first one, where the reading is whole
all_first : (reading : Reading) (founds : List Found) (what : Found) → IsReadingOf (Some reading) founds → reading.is_torn ≡ false → Contains founds what → what ≡ reading.found
all_first reading [] what is whole there = absurd is
all_first reading (first ∷ later) what is whole (zero, lt, e) = sym e ∙ sym is.0
all_first reading (first ∷ later) what is whole (suc k, lt, e) = sym e ∙ is.1.0 whole k what (omega arith) ∙ sym is.0

unchanged : (now : List PlainRow) (readings : List Reading) (reads : List Read) → AreReadings readings reads → first_changed now readings ≡ None → (read : Read) → Contains reads read → rows_at now read.at ≡ read.found
unchanged now readings reads are none read there = by_note (reading_of readings read.at) refl (are read.at)
  where
    among : Contains (found_at read.at reads) read.found
    among = found_of reads read there

    no_founds : (founds : List Found) → IsReadingOf None founds → Contains founds read.found → ⊥
    no_founds [] is (k, lt, e) = omega arith
    no_founds (first ∷ later) is contains = is

    by_note : (o : Option Reading) → reading_of readings read.at ≡ o → IsReadingOf o (found_at read.at reads) → rows_at now read.at ≡ read.found
    by_note None e is = absurd (no_founds (found_at read.at reads) is among)
    by_note (Some reading) e is =
        let whole = none_changed now readings read.at reading none e in
        sym (all_first reading (found_at read.at reads) read.found is whole.0 among ∙ whole.1)

-- the first place that has changed is that of its reading
some_changed : (now : List PlainRow) (readings rest : List Reading) (at : Place) → AllByRecursion (λ reading. reading_of readings reading.at ≡ Some reading) rest → first_changed now rest ≡ Some at
    → (reading : Reading) × ((reading_of readings at ≡ Some reading) × ((reading.is_torn || not (same_rows reading.found (rows_at now at))) ≡ true))
some_changed now readings [] at apart is = cc
some_changed now readings (one ∷ rest) at apart is = by_change (some_changed now readings rest at apart.1) (one.is_torn || not (same_rows one.found (rows_at now one.at))) refl is
  where
    place_inj : (a b : Place) → ◌≡◌ {A = Option Place} (Some a) (Some b) → a ≡ b
    place_inj a b e = cc

    by_change : (first_changed now rest ≡ Some at → (reading : Reading) × ((reading_of readings at ≡ Some reading) × ((reading.is_torn || not (same_rows reading.found (rows_at now at))) ≡ true)))
        → (b : Bool) → (one.is_torn || not (same_rows one.found (rows_at now one.at))) ≡ b → cond b (Some one.at) (first_changed now rest) ≡ Some at
        → (reading : Reading) × ((reading_of readings at ≡ Some reading) × ((reading.is_torn || not (same_rows reading.found (rows_at now at))) ≡ true))
    by_change others true e h =
        let same : one.at ≡ at = place_inj one.at at h in
        (one, (ap (reading_of readings) (sym same) ∙ apart.0, ap (λ p. one.is_torn || not (same_rows one.found (rows_at now p))) (sym same) ∙ e))
    by_change others false e h = others h

-- one of these is another one
other_found : (target : Found) (founds : List Found) → (AllByRecursion (λ f. f ≡ target) founds → ⊥) → (f : Found) × (Contains founds f × (f ≡ target → ⊥))
other_found target [] none = absurd (none tt)
other_found target (first ∷ rest) none = by_first (other_found target rest) (cases_Bool (same_rows first target))
  where
    by_first : ((AllByRecursion (λ f. f ≡ target) rest → ⊥) → (f : Found) × (Contains rest f × (f ≡ target → ⊥))) → (same_rows first target ≡ true) ⊎ (same_rows first target ≡ false) → (f : Found) × (Contains (first ∷ rest) f × (f ≡ target → ⊥))
    by_first others (inl here) =
        let more = others (λ all. none ((same_rows_decide first target).0 here, all)) in
        (more.0, (contains_cons first more.0 rest more.1.0, more.1.1))
    by_first others (inr apart) = (first, (contains_first first rest, λ e. let h = (same_rows_decide first target).1 e in cc))

-- the read that found it
read_of : (at : Place) (reads : List Read) (what : Found) → Contains (found_at at reads) what → (read : Read) × (Contains reads read × ((read.at ≡ at) × (read.found ≡ what)))
read_of at [] what (k, lt, e) = absurd (omega arith)
read_of at (first ∷ rest) what there = by_place (read_of at rest what) (same_place first.at at) refl there
  where
    behind : ((read : Read) × (Contains rest read × ((read.at ≡ at) × (read.found ≡ what)))) → (read : Read) × (Contains (first ∷ rest) read × ((read.at ≡ at) × (read.found ≡ what)))
    behind (read, (here, is)) = (read, (contains_cons first read rest here, is))

    by_place : (Contains (found_at at rest) what → (read : Read) × (Contains rest read × ((read.at ≡ at) × (read.found ≡ what)))) → (b : Bool) → same_place first.at at ≡ b
        → Contains (map (λ r. r.found) (cond b (first ∷ filter (λ r. same_place r.at at) rest) (filter (λ r. same_place r.at at) rest))) what → (read : Read) × (Contains (first ∷ rest) read × ((read.at ≡ at) × (read.found ≡ what)))
    by_place others true e (zero, lt, is) = (first, (contains_first first rest, ((same_place_decides first.at at).0 e, is)))
    by_place others true e (suc k, lt, is) = behind (others (k, omega arith, is))
    by_place others false e contains = behind (others contains)

conflicting : (now : List PlainRow) (readings : List Reading) (reads : List Read) (at : Place) → AreReadings readings reads → AreApart readings → first_changed now readings ≡ Some at → IsConflict reads now (Some at)
conflicting now readings reads at are apart changed =
    let one = some_changed now readings readings at (recursion_from_All (λ reading. reading_of readings reading.at ≡ Some reading) readings apart) changed in
    let other = other_found (rows_at now at) (found_at at reads) (not_all one.0 (found_at at reads) (subst (λ o. IsReadingOf o (found_at at reads)) one.1.0 (are at)) one.1.1) in
    let read = read_of at reads other.0 other.1.0 in
    (read.0, (read.1.0, (read.1.1.0, λ same. other.1.1 (sym read.1.1.1 ∙ sym same ∙ ap (rows_at now) read.1.1.0))))
  where
    not_all : (reading : Reading) (founds : List Found) → IsReadingOf (Some reading) founds → (reading.is_torn || not (same_rows reading.found (rows_at now at))) ≡ true → AllByRecursion (λ f. f ≡ rows_at now at) founds → ⊥
    not_all reading [] is changed all = is
    not_all reading (first ∷ later) is changed all =
        let whole : reading.is_torn ≡ false = is.1.1 (All-from_recursion (λ (f : Found). f ≡ first) later (all_be later all.1)) in
        let same : same_rows reading.found (rows_at now at) ≡ true = (same_rows_decide reading.found (rows_at now at)).1 (is.0 ∙ all.0) in
        let never : (reading.is_torn || not (same_rows reading.found (rows_at now at))) ≡ false = or_none reading.is_torn (not (same_rows reading.found (rows_at now at))) whole (ap not same) in
        true_false (sym changed ∙ never)
      where
        all_be : (l : List Found) → AllByRecursion (λ f. f ≡ rows_at now at) l → AllByRecursion (λ f. f ≡ first) l
        all_be [] h = tt
        all_be (x ∷ xs) h = (h.0 ∙ sym all.0, all_be xs h.1)

        true_false : true ≡ false → ⊥
        true_false e = cc

-- what readings tell of conflicts
pub tells_conflict : (now : List PlainRow) (readings : List Reading) → AreApart readings → (answer : Option Place) → answer ≡ first_changed now readings → (reads : List Read) → AreReadings readings reads → IsConflict reads now answer
tells_conflict now readings apart None is reads are = λ k d lt. unchanged now readings reads are (sym is) _ (Contains-get_or reads k d lt)
tells_conflict now readings apart (Some at) is reads are = conflicting now readings reads at are apart (sym is)
