-- The copies of a request have one entry, and it is the last one's.
use Rattle.std.proofs.Common.{◌≡◌, ℕ, zero, suc, ◌+◌, ◌<◌, List, [], ◌∷◌, ◌++◌, Bool, true, false, not, eqb, leb, ◌&&◌, ◌||◌, refl, sym, ap, ◌∙◌, arith}
use Rattle.std.proofs.lemmas.List.{append-nil}
use Rattle.std.specs.List.{list_all, filter, flat_map, last_or}
use Rattle.std.specs.Prelude.{None, ◌==◌}
use Rattle.std.proofs.lemmas.Bool.{and_parts, or_parts, or_right, not-true, ne_eqb, lt-leb}
use Rattle.svc_values.specs.declared.entry.Ltxid.{Ltxid}
use Rattle.svc_values.specs.declared.entry.Entry.{Entry}
use Rattle.svc_values.specs.meaning.Identifiers.{same_ltxid}
use Rattle.outage_schedule.specs.declared.request.RequestReport.{RequestReport}
use Rattle.run_clauses.specs.meaning.Tried.{holds, ids_differ, ids_tried}
use Rattle.run_clauses.specs.meaning.Copies.{Copies}
use Rattle.run_clauses.specs.meaning.Once.{entries_in, ids_of_last, copies_have_one}
use Rattle.entry_check.specs.Once.{ids_of, known_in, copies_known, have_one}
use Rattle.entry_check.proofs.Sets.{differ-append, meet, holds-append, are_one}
use Rattle.entry_check.proofs.Counting.{known-append, known_swap}
use Rattle.entry_check.proofs.Entries.{count_known}

-- ---- tests of all identifiers

all_true : (ids : List Ltxid) → list_all (λ x. true) ids ≡ true
all_true [] = refl
all_true (x ∷ ids) = all_true ids

and_apart : (a b c d : Bool) → ((a && b) && (c && d)) ≡ ((a && c) && (b && d))
and_apart true true c d = refl
and_apart true false true d = refl
and_apart true false false d = refl
and_apart false b c d = refl

all_and : (p q : Ltxid → Bool) (ids : List Ltxid) → list_all (λ x. p x && q x) ids ≡ (list_all p ids && list_all q ids)
all_and p q [] = refl
all_and p q (x ∷ ids) = ap (λ b. (p x && q x) && b) (all_and p q ids) ∙ and_apart (p x) (q x) (list_all p ids) (list_all q ids)

all_alike : (p q : Ltxid → Bool) → ((x : Ltxid) → p x ≡ q x) → (ids : List Ltxid) → list_all p ids ≡ list_all q ids
all_alike p q same [] = refl
all_alike p q same (x ∷ ids) = ap (λ b. b && list_all p ids) (same x) ∙ ap (λ b. q x && b) (all_alike p q same ids)

-- what holds of all entries that pass
all_passing : (p q : Ltxid → Bool) (entries : List Entry) → list_all (λ (entry : Entry). q entry.ltxid) (filter (λ (entry : Entry). p entry.ltxid) entries) ≡ list_all (λ x. not (p x) || q x) (ids_of entries)
all_passing p q [] = refl
all_passing p q (entry ∷ entries) = by (p entry.ltxid) refl (all_passing p q entries)
  where
    by : (b : Bool) → p entry.ltxid ≡ b
        → list_all (λ (one : Entry). q one.ltxid) (filter (λ (one : Entry). p one.ltxid) entries) ≡ list_all (λ x. not (p x) || q x) (ids_of entries)
        → list_all (λ (one : Entry). q one.ltxid) (filter (λ (one : Entry). p one.ltxid) (entry ∷ entries)) ≡ list_all (λ x. not (p x) || q x) (ids_of (entry ∷ entries))
    by true is rest = rw is (ap (λ b. q entry.ltxid && b) rest)
    by false is rest = rw is rest

some_none : (n : ℕ) → eqb (suc n) 0 ≡ false
some_none n = ne_eqb (suc n) 0 (λ e. omega (arith, e))

none_passes : (p : Ltxid → Bool) (ids : List Ltxid) → list_all (λ x. not (p x)) ids ≡ eqb (known_in p ids) 0
none_passes p [] = refl
none_passes p (x ∷ ids) = by (p x) refl (none_passes p ids)
  where
    by : (b : Bool) → p x ≡ b → list_all (λ y. not (p y)) ids ≡ eqb (known_in p ids) 0 → list_all (λ y. not (p y)) (x ∷ ids) ≡ eqb (known_in p (x ∷ ids)) 0
    by true is rest = rw is (sym (some_none (known_in p ids)))
    by false is rest = rw is rest

-- ---- identifiers of lists that do not meet

pub meets : (a b : List Ltxid) → meet a b ≡ false → (x : Ltxid) → (holds a x && holds b x) ≡ false
meets [] b none x = refl
meets (y ∷ a) b none x =
    let parts = or_parts (holds b y) (meet a b) none in
    by (same_ltxid x y) refl parts.0 (meets a b parts.1 x)
  where
    by : (s : Bool) → same_ltxid x y ≡ s → holds b y ≡ false → (holds a x && holds b x) ≡ false → (holds (y ∷ a) x && holds b x) ≡ false
    by true is other rest = ap (λ s. (s || holds a x) && holds b x) is ∙ (ap (holds b) (are_one x y is) ∙ other)
    by false is other rest = ap (λ s. (s || holds a x) && holds b x) is ∙ rest

-- the last copy's are among all of them
last_among : (copy : RequestReport) (copies : List RequestReport) (x : Ltxid) → holds (ids_of_last (last_or None (copy ∷ copies))) x ≡ true → holds (flat_map ids_tried (copy ∷ copies)) x ≡ true
last_among copy [] x has = ap (λ (ids : List Ltxid). holds ids x) (append-nil (ids_tried copy)) ∙ has
last_among copy (next ∷ copies) x has = holds-append (ids_tried copy) (flat_map ids_tried (next ∷ copies)) x ∙ or_right (holds (ids_tried copy) x) _ (last_among next copies x has)

-- those of the entries that are among these are among the others
abbrev all_among : List Ltxid → List Ltxid → List Ltxid → Bool
all_among stored ids others = list_all (λ x. not (holds ids x) || holds others x) stored

apart_case : (a f l : Bool) → (a && f) ≡ false → (l ≡ true → f ≡ true) → (not (a || f) || l) ≡ (not a && (not f || l))
apart_case true true l apart within = absurd (let no : true ≡ false = apart in cc)
apart_case true false true apart within = absurd (let no : false ≡ true = within refl in cc)
apart_case true false false apart within = refl
apart_case false f l apart within = refl

sums : (a b : ℕ) (r : Bool) → (leb (a + b) 1 && (eqb a 0 && r)) ≡ (eqb a 0 && (leb b 1 && r))
sums zero b r = let same : 0 + b ≡ b = omega arith in ap (λ n. leb n 1 && r) same
sums (suc a) b r =
    ap (λ e. leb (suc a + b) 1 && (e && r)) (some_none a)
    ∙ and_none (leb (suc a + b) 1)
    ∙ sym (ap (λ e. e && (leb b 1 && r)) (some_none a))
  where
    and_none : (c : Bool) → (c && false) ≡ false
    and_none true = refl
    and_none false = refl

own_all : (ids : List Ltxid) (x : Ltxid) → (not (holds (ids ++ []) x) || holds ids x) ≡ true
own_all ids x = ap (λ (all : List Ltxid). not (holds all x) || holds ids x) (append-nil ids) ∙ either (holds ids x)
  where
    either : (b : Bool) → (not b || b) ≡ true
    either true = refl
    either false = refl

and_true : (b : Bool) → (b && true) ≡ b
and_true true = refl
and_true false = refl

none_most : (n : ℕ) → eqb n 0 ≡ leb n 0
none_most zero = refl
none_most (suc n) = let more : 0 < suc n = omega arith in some_none n ∙ sym (lt-leb (suc n) 0 more)

module _ (stored : List Ltxid) (differ : ids_differ stored ≡ true) where
  copies_by : (copies : List RequestReport) → ids_differ (flat_map ids_tried copies) ≡ true
      → (leb (known_in (holds stored) (flat_map ids_tried copies)) 1 && all_among stored (flat_map ids_tried copies) (ids_of_last (last_or None copies))) ≡ copies_known (holds stored) copies
  copies_by [] apart = all_true stored
  copies_by (copy ∷ []) apart =
      let ids = ids_tried copy in
      ap (λ b. leb (known_in (holds stored) (ids ++ [])) 1 && b) (all_alike _ (λ x. true) (own_all ids) stored ∙ all_true stored)
      ∙ and_true (leb (known_in (holds stored) (ids ++ [])) 1)
      ∙ ap (λ (all : List Ltxid). leb (known_in (holds stored) all) 1) (append-nil ids)
      ∙ sym (and_true (leb (known_in (holds stored) ids) 1))
  copies_by (copy ∷ next ∷ copies) apart =
      let ids = ids_tried copy in
      let others = flat_map ids_tried (next ∷ copies) in
      let last = ids_of_last (last_or None (next ∷ copies)) in
      let has = holds stored in
      let parts = and_parts (not (meet ids others)) (ids_differ ids && ids_differ others) (sym (differ-append ids others) ∙ apart) in
      let each = and_parts (ids_differ ids) (ids_differ others) parts.1 in
      let none = not-true (meet ids others) parts.0 in
      let here : (x : Ltxid) → (not (holds (ids ++ others) x) || holds last x) ≡ (not (holds ids x) && (not (holds others x) || holds last x)) =
      λ x. ap (λ b. not b || holds last x) (holds-append ids others x) ∙ apart_case (holds ids x) (holds others x) (holds last x) (meets ids others none x) (last_among next copies x) in
      let first : list_all (λ x. not (holds ids x)) stored ≡ eqb (known_in has ids) 0 = none_passes (holds ids) stored ∙ ap (λ n. eqb n 0) (known_swap stored ids differ each.0) in
      let among : all_among stored (ids ++ others) last ≡ (eqb (known_in has ids) 0 && all_among stored others last) =
      all_alike _ (λ x. not (holds ids x) && (not (holds others x) || holds last x)) here stored
      ∙ all_and (λ x. not (holds ids x)) (λ x. not (holds others x) || holds last x) stored
      ∙ ap (λ b. b && all_among stored others last) first in
      ap (λ n. leb n 1 && all_among stored (ids ++ others) last) (known-append has ids others)
      ∙ ap (λ b. leb (known_in has ids + known_in has others) 1 && b) among
      ∙ sums (known_in has ids) (known_in has others) (all_among stored others last)
      ∙ ap (λ b. eqb (known_in has ids) 0 && b) (copies_by (next ∷ copies) each.1)
      ∙ ap (λ b. b && copies_known has (next ∷ copies)) (none_most (known_in has ids))

-- the copies of a request, by the set of the entries' identifiers
pub copies_known_is : (entries : List Entry) → ids_differ (ids_of entries) ≡ true → (copies : Copies) → ids_differ (flat_map ids_tried copies.reports) ≡ true
    → copies_have_one entries copies ≡ have_one (holds (ids_of entries)) copies
copies_known_is entries differ copies apart =
    let all = flat_map ids_tried copies.reports in
    let last = ids_of_last (last_or None copies.reports) in
    ap (λ b. (copies.request.again == 0) || b)
    (ap (λ n. leb n 1 && list_all (λ (entry : Entry). holds last entry.ltxid) (entries_in entries all)) (count_known entries all differ apart)
    ∙ ap (λ b. leb (known_in (holds (ids_of entries)) all) 1 && b) (all_passing (holds all) (holds last) entries)
    ∙ copies_by (ids_of entries) differ copies.reports apart)
