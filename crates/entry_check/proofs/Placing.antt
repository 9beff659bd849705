-- Entries whose identifiers differ, found one by one.
use Rattle.std.proofs.Common.{◌≡◌, ℕ, ◌+◌, ◌<◌, ◌≤◌, List, [], ◌∷◌, ◌++◌, length, drop, get_or, length-append, Bool, true, false, cond, ◌&&◌, ◌||◌, refl, sym, ap, ◌∙◌, arith}
use Rattle.std.specs.Prelude.{Option, Some, slice_get, option_and_then}
use Rattle.std.specs.List.{list_all}
use Rattle.std.proofs.lemmas.Bool.{and_parts}
use Rattle.std.proofs.Math.ListN.{drop_of_length-le}
use Rattle.std.proofs.lemmas.List.{append-nil, drop_more, nil_from_length}
use Rattle.std.proofs.lemmas.Option.{slice_get-get_or}
use Rattle.svc_values.specs.Keys.{value_of}
use Rattle.svc_values.specs.declared.entry.Ltxid.{Ltxid}
use Rattle.svc_values.specs.declared.entry.Entry.{Entry}
use Rattle.svc_values.specs.meaning.Identifiers.{same_ltxid}
use Rattle.outage_schedule.specs.declared.document.Document.{Document}
use Rattle.outage_schedule.specs.declared.report.Report.{Report}
use Rattle.run_clauses.specs.meaning.Tried.{holds, tried_fits}
use Rattle.run_clauses.specs.meaning.Once.{entries_in, entries_differ, entries_tried_once, once}
use Rattle.identifier_sets.specs.Keys.{same_key, key_of}
use Rattle.identifier_sets.proofs.Offered.{same_symm}
use Rattle.entry_check.specs.Ids.{as_list}
use Rattle.entry_check.specs.Once.{known_in, ids_of}
use Rattle.entry_check.specs.InnerPlaces.{Finds}
use Rattle.entry_check.proofs.Entries.{count_known, differ_as_ids}

-- where `Once` holds, identifiers of entries differ
pub once_differ : (document : Document) (report : Report) → once document report ≡ true → entries_differ report.entries ≡ true
once_differ document report holds_once =
    let fits = and_parts (tried_fits report) _ holds_once in
    let tried = and_parts (entries_tried_once report) _ fits.1 in
    (and_parts (entries_differ report.entries) _ tried.1).0

-- ---- one identifier

few_known : (p : Ltxid → Bool) (x : Ltxid) → known_in p (x ∷ []) ≤ 1
few_known p x = by (p x) refl
  where
    by : (b : Bool) → p x ≡ b → known_in p (x ∷ []) ≤ 1
    by true is = rw is (omega arith)
    by false is = rw is (omega arith)

one_at_most : (entries : List Entry) → entries_differ entries ≡ true → (x : Ltxid) → length (entries_in entries (x ∷ [])) ≤ 1
one_at_most entries differ x =
    let same = count_known entries (x ∷ []) (sym (differ_as_ids entries) ∙ differ) refl in
    let few = few_known (holds (ids_of entries)) x in
    omega (arith, same, few)

or_false : (b : Bool) → (b || false) ≡ b
or_false true = refl
or_false false = refl

-- the entry stands first where it has the identifier
entry_here : (entry : Entry) (rest : List Entry) (x : Ltxid) → same_ltxid x entry.ltxid ≡ true → entries_in (entry ∷ rest) (x ∷ []) ≡ entry ∷ entries_in rest (x ∷ [])
entry_here entry rest x is =
    let here : holds (x ∷ []) entry.ltxid ≡ true = or_false (same_ltxid entry.ltxid x) ∙ same_symm entry.ltxid x ∙ is in
    rw here refl

entry_not_here : (entry : Entry) (rest : List Entry) (x : Ltxid) → same_ltxid x entry.ltxid ≡ false → entries_in (entry ∷ rest) (x ∷ []) ≡ entries_in rest (x ∷ [])
entry_not_here entry rest x is =
    let here : holds (x ∷ []) entry.ltxid ≡ false = or_false (same_ltxid entry.ltxid x) ∙ same_symm entry.ltxid x ∙ is in
    rw here refl

-- the entries that were placed so far, and those to come
abbrev pub placed : List Entry → List ((ℕ × ℕ × ℕ) × ℕ) → Ltxid → List Entry
placed entries places x = as_list (option_and_then (slice_get entries) (value_of same_key places (key_of x)))

-- the entry's own identifier, and another one
placed_here : (entries : List Entry) → entries_differ entries ≡ true → (i : ℕ) (entry : Entry) (rest : List Entry) → i < length entries → entry ≡ get_or entries i entry
    → (x : Ltxid) → same_ltxid x entry.ltxid ≡ true → (before : List Entry) → before ++ entries_in (entry ∷ rest) (x ∷ []) ≡ entries_in entries (x ∷ [])
    → as_list (slice_get entries i) ++ entries_in rest (x ∷ []) ≡ entries_in entries (x ∷ [])
placed_here entries differ i entry rest within is x same before so_far =
    let more = entries_in rest (x ∷ []) in
    let all : before ++ entry ∷ more ≡ entries_in entries (x ∷ []) = sym (ap (λ (left : List Entry). before ++ left) (entry_here entry rest x same)) ∙ so_far in
    let few = one_at_most entries differ x in
    let long = ap (λ (list : List Entry). length list) all in
    let sum = length-append before (entry ∷ more) in
    let none : before ≡ [] = nil_from_length before (omega (arith, few, long, sum)) in
    ap (λ found. as_list found ++ more) (slice_get-get_or entries i entry within ∙ ap (λ (one : Entry). Some one) (sym is))
    ∙ sym (ap (λ (front : List Entry). front ++ entry ∷ more) none)
    ∙ all

placed_by : (entries : List Entry) → entries_differ entries ≡ true → (i : ℕ) (entry : Entry) (rest : List Entry) → i < length entries → entry ≡ get_or entries i entry
    → (old : Option ℕ) (x : Ltxid) → as_list (option_and_then (slice_get entries) old) ++ entries_in (entry ∷ rest) (x ∷ []) ≡ entries_in entries (x ∷ [])
    → as_list (option_and_then (slice_get entries) (cond (same_ltxid x entry.ltxid) (Some i) old)) ++ entries_in rest (x ∷ []) ≡ entries_in entries (x ∷ [])
placed_by entries differ i entry rest within is old x so_far = by (same_ltxid x entry.ltxid) refl
  where
    by : (b : Bool) → same_ltxid x entry.ltxid ≡ b → as_list (option_and_then (slice_get entries) (cond (same_ltxid x entry.ltxid) (Some i) old)) ++ entries_in rest (x ∷ []) ≡ entries_in entries (x ∷ [])
    by true same =
        ap (λ b. as_list (option_and_then (slice_get entries) (cond b (Some i) old)) ++ entries_in rest (x ∷ [])) same
        ∙ placed_here entries differ i entry rest within is x same (as_list (option_and_then (slice_get entries) old)) so_far
    by false other =
        ap (λ b. as_list (option_and_then (slice_get entries) (cond b (Some i) old)) ++ entries_in rest (x ∷ [])) other
        ∙ sym (ap (λ (left : List Entry). as_list (option_and_then (slice_get entries) old) ++ left) (entry_not_here entry rest x other))
        ∙ so_far

-- one entry more is placed
pub placed_more : (entries : List Entry) → entries_differ entries ≡ true → (i : ℕ) (entry : Entry) → i < length entries → entry ≡ get_or entries i entry
    → (old new : List ((ℕ × ℕ × ℕ) × ℕ)) (key : ℕ × ℕ × ℕ) → key ≡ key_of entry.ltxid
    → ((k : ℕ × ℕ × ℕ) → value_of same_key new k ≡ cond (same_key k key) (Some i) (value_of same_key old k))
    → ((x : Ltxid) → placed entries old x ++ entries_in (drop i entries) (x ∷ []) ≡ entries_in entries (x ∷ []))
    → (x : Ltxid) → placed entries new x ++ entries_in (drop (i + 1) entries) (x ∷ []) ≡ entries_in entries (x ∷ [])
placed_more entries differ i entry within is old new key key_is put so_far x =
    let rest = drop (i + 1) entries in
    let left : drop i entries ≡ entry ∷ rest = drop_more entries i entry within ∙ ap (λ (one : Entry). one ∷ rest) (sym is) in
    let found : value_of same_key new (key_of x) ≡ cond (same_ltxid x entry.ltxid) (Some i) (value_of same_key old (key_of x)) =
    put (key_of x) ∙ ap (λ (k : ℕ × ℕ × ℕ). cond (same_key (key_of x) k) (Some i) (value_of same_key old (key_of x))) key_is in
    ap (λ (at : Option ℕ). as_list (option_and_then (slice_get entries) at) ++ entries_in rest (x ∷ [])) found
    ∙ placed_by entries differ i entry rest within is (value_of same_key old (key_of x)) x
    (sym (ap (λ (all : List Entry). placed entries old x ++ entries_in all (x ∷ [])) left) ∙ so_far x)

-- all are placed
pub all_placed : (entries : List Entry) (places : List ((ℕ × ℕ × ℕ) × ℕ)) (i : ℕ) → length entries ≤ i
    → ((x : Ltxid) → placed entries places x ++ entries_in (drop i entries) (x ∷ []) ≡ entries_in entries (x ∷ [])) → Finds places entries
all_placed entries places i past so_far x =
    sym (append-nil (placed entries places x)) ∙ sym (ap (λ (left : List Entry). placed entries places x ++ entries_in left (x ∷ [])) (drop_of_length-le entries past)) ∙ so_far x

-- what stands at a place that is found
pub found_as : (places : List ((ℕ × ℕ × ℕ) × ℕ)) (entries all : List Entry) → Finds places entries → entries ≡ all → (x : Ltxid) (key : ℕ × ℕ × ℕ) → key ≡ key_of x
    → (at : Option ℕ) → at ≡ value_of same_key places key → as_list (option_and_then (slice_get entries) at) ≡ entries_in all (x ∷ [])
found_as places entries all finds are x key key_is at is =
    ap (λ (o : Option ℕ). as_list (option_and_then (slice_get entries) o)) (is ∙ ap (value_of same_key places) key_is)
    ∙ finds x
    ∙ ap (λ (list : List Entry). entries_in list (x ∷ [])) are

-- ---- several identifiers

-- what holds of all entries of these identifiers
pub each_found : (p : Entry → Bool) (entries : List Entry) (ids : List Ltxid) → list_all (λ x. list_all p (entries_in entries (x ∷ []))) ids ≡ list_all p (entries_in entries ids)
each_found p entries [] = sym (none_found entries)
  where
    none_found : (all : List Entry) → list_all p (entries_in all []) ≡ true
    none_found [] = refl
    none_found (entry ∷ all) = none_found all
each_found p entries (x ∷ ids) = ap (λ b. list_all p (entries_in entries (x ∷ [])) && b) (each_found p entries ids) ∙ sym (both entries)
  where
    both : (all : List Entry) → list_all p (entries_in all (x ∷ ids)) ≡ (list_all p (entries_in all (x ∷ [])) && list_all p (entries_in all ids))
    both [] = refl
    both (entry ∷ all) = by (same_ltxid entry.ltxid x) (holds ids entry.ltxid) refl refl (both all)
      where
        regroup : (a b c : Bool) → (a && (b && c)) ≡ ((a && b) && (a && c))
        regroup true b c = refl
        regroup false b c = refl

        regroup_left : (a b c : Bool) → (a && (b && c)) ≡ ((a && b) && c)
        regroup_left true b c = refl
        regroup_left false b c = refl

        regroup_right : (a b c : Bool) → (a && (b && c)) ≡ (b && (a && c))
        regroup_right true true c = refl
        regroup_right true false c = refl
        regroup_right false true c = refl
        regroup_right false false c = refl

        by : (s h : Bool) → same_ltxid entry.ltxid x ≡ s → holds ids entry.ltxid ≡ h → list_all p (entries_in all (x ∷ ids)) ≡ (list_all p (entries_in all (x ∷ [])) && list_all p (entries_in all ids))
            → list_all p (entries_in (entry ∷ all) (x ∷ ids)) ≡ (list_all p (entries_in (entry ∷ all) (x ∷ [])) && list_all p (entries_in (entry ∷ all) ids))
        by true true is has rest = rw (is, has) (ap (λ b. p entry && b) rest ∙ regroup (p entry) _ _)
        by true false is has rest = rw (is, has) (ap (λ b. p entry && b) rest ∙ regroup_left (p entry) _ _)
        by false true is has rest = rw (is, has) (ap (λ b. p entry && b) rest ∙ regroup_right (p entry) _ _)
        by false false is has rest = rw (is, has) rest
