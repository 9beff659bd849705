-- What holds of all entries of a journal holds of those that stand behind the first ones, and lists
-- of identifiers none of which stands twice.
use Rattle.std.proofs.Common.{◌≡◌, refl, sym, ap, subst, ◌∙◌, Bool, true, false, ℕ, ◌+◌, ◌≤◌, ◌&&◌, ◌||◌, cond, flat_map, length, length-append, List, [], ◌∷◌, ◌++◌, Option, Some, None, ◌⊎◌, inl, inr, if◌then◌else◌, arith}
use Rattle.std.specs.Prelude.{◌==◌, count_by, nat_le, not}
use Rattle.std.specs.List.{list_all, list_any, last_or}
use Rattle.std.proofs.lemmas.Bool.{and_parts, and_from, or_cases, or_left, or_right, not-true}
use Rattle.std.proofs.lemmas.Grind.{flat_map-append}
use Rattle.std.proofs.lemmas.List.Elements.{filter-append}
use Rattle.std.proofs.lemmas.List.Folds.{list_all-append, list_any-append}
use Rattle.std.proofs.lemmas.List.Sums.{sum_by-cons}
use Rattle.svc_values.specs.declared.entry.Entry.{Entry}
use Rattle.svc_values.specs.declared.entry.Ltxid.{Ltxid}
use Rattle.svc_values.specs.meaning.Identifiers.{same_ltxid}
use Rattle.svc_values.specs.SameLaws.{same_ltxid_decides}
use Rattle.outage_schedule.specs.declared.document.Request.{Request}
use Rattle.outage_schedule.specs.declared.failure.Failure.{Failure}
use Rattle.outage_schedule.specs.declared.failure.Failure.TheVariants as failure
use Rattle.outage_schedule.specs.declared.request.RequestReport.{RequestReport}
use Rattle.outage_schedule.specs.declared.request.ShownCall.{ShownCall}
use Rattle.run_clauses.specs.meaning.Copies.{Copies, copies_of}
use Rattle.run_clauses.specs.meaning.Once.{committed_has_one, copies_have_one, count_in, dropped_has_none, entries_differ, entries_in, has_entry_in, ids_of_last, last_ends, may_end, request_ends}
use Rattle.run_clauses.specs.meaning.Transactions.{Txn, is_last, is_shown_committed, is_shown_dropped, txns, with_tried}
use Rattle.run_clauses.specs.meaning.Tried.{holds, ids_differ, ids_tried}
use Rattle.world_model.proofs.Offered.{weaker_all, le_from, le_to, not_both}
use Rattle.invariant_laws.proofs.losses.LostKept.{both_all}
use Rattle.invariant_laws.proofs.entries.TriedApart.{false_by, holds_append}

-- ENTRIES BEHIND OTHERS ---------------------------------------------------------------------------

pub later_differ : (image gained : List Entry) → entries_differ (image ++ gained) ≡ true → entries_differ gained ≡ true
later_differ [] gained differ = differ
later_differ (entry ∷ image) gained differ = later_differ image gained (and_parts (not (list_any (λ other. same_ltxid entry.ltxid other.ltxid) (image ++ gained))) (entries_differ (image ++ gained)) differ).1

-- none of the entries has one of the identifiers
abbrev pub is_apart : List Entry → List Ltxid → Bool
is_apart entries ids = list_all (λ entry. not (holds ids entry.ltxid)) entries

module _ (image gained : List Entry) where
  both_in : (ids : List Ltxid) → entries_in (image ++ gained) ids ≡ entries_in image ids ++ entries_in gained ids
  both_in ids = filter-append (λ (entry : Entry). holds ids entry.ltxid) image gained

  pub later_few : (ids : List Ltxid) (most : ℕ) → nat_le (length (entries_in (image ++ gained) ids)) most ≡ true → nat_le (length (entries_in gained ids)) most ≡ true
  later_few ids most few =
      let all : length (entries_in (image ++ gained) ids) ≤ most = le_from (length (entries_in (image ++ gained) ids)) most few in
      let parts : length (entries_in (image ++ gained) ids) ≡ length (entries_in image ids) + length (entries_in gained ids) = ap length (both_in ids) ∙ length-append (entries_in image ids) (entries_in gained ids) in
      le_to (length (entries_in gained ids)) most (omega (arith, all, parts))

  pub later_copies : (copies : Copies) → copies_have_one (image ++ gained) copies ≡ true → copies_have_one gained copies ≡ true
  later_copies copies here = by (or_cases (copies.request.again == 0) (has_one (image ++ gained)) here)
    where
      ids : List Ltxid
      ids = flat_map ids_tried copies.reports

      in_last : Entry → Bool
      in_last entry = holds (ids_of_last (last_or None copies.reports)) entry.ltxid

      has_one : List Entry → Bool
      has_one entries = nat_le (length (entries_in entries ids)) 1 && list_all in_last (entries_in entries ids)

      by : (copies.request.again == 0) ≡ true ⊎ has_one (image ++ gained) ≡ true → ((copies.request.again == 0) || has_one gained) ≡ true
      by (inl never) = or_left (copies.request.again == 0) (has_one gained) never
      by (inr one) =
          let parts = and_parts (nat_le (length (entries_in (image ++ gained) ids)) 1) (list_all in_last (entries_in (image ++ gained) ids)) one in
          let split = sym (list_all-append in_last (entries_in image ids) (entries_in gained ids)) ∙ (ap (list_all in_last) (sym (both_in ids)) ∙ parts.1) in
          or_right (copies.request.again == 0) (has_one gained)
          (and_from (nat_le (length (entries_in gained ids)) 1) (list_all in_last (entries_in gained ids)) (later_few ids 1 parts.0) (and_parts (list_all in_last (entries_in image ids)) (list_all in_last (entries_in gained ids)) split).1)

  -- ENTRIES OF OTHERS -----------------------------------------------------------------------------

  none_of : (ids : List Ltxid) (entries : List Entry) → is_apart entries ids ≡ true → entries_in entries ids ≡ []
  none_of ids [] all = refl
  none_of ids (entry ∷ entries) all =
      let parts = and_parts (not (holds ids entry.ltxid)) (is_apart entries ids) all in
      ap (λ (test : Bool). if test then entry ∷ entries_in entries ids else entries_in entries ids) (not-true (holds ids entry.ltxid) parts.0) ∙ none_of ids entries parts.1

  same_in : (ids : List Ltxid) → is_apart image ids ≡ true → entries_in (image ++ gained) ids ≡ entries_in gained ids
  same_in ids apart = both_in ids ∙ ap (λ (front : List Entry). front ++ entries_in gained ids) (none_of ids image apart)

  none_has : (ids : List Ltxid) (x : Ltxid) (entries : List Entry) → holds ids x ≡ true → is_apart entries ids ≡ true → list_any (λ entry. same_ltxid entry.ltxid x) entries ≡ false
  none_has ids x [] held all = refl
  none_has ids x (entry ∷ entries) held all = by (same_ltxid entry.ltxid x) refl (none_has ids x entries held parts.1)
    where
      parts : (not (holds ids entry.ltxid) ≡ true) × (is_apart entries ids ≡ true)
      parts = and_parts (not (holds ids entry.ltxid)) (is_apart entries ids) all

      by : (same : Bool) → same_ltxid entry.ltxid x ≡ same → list_any (λ (other : Entry). same_ltxid other.ltxid x) entries ≡ false → (same || list_any (λ (other : Entry). same_ltxid other.ltxid x) entries) ≡ false
      by false is rest = rest
      by true is rest = absurd (not_both (holds ids entry.ltxid) (ap (holds ids) ((same_ltxid_decides entry.ltxid x).0 is) ∙ held) (not-true (holds ids entry.ltxid) parts.0))

  same_has : (ids : List Ltxid) (x : Ltxid) → is_apart image ids ≡ true → has_entry_in (image ++ gained) ids x ≡ has_entry_in gained ids x
  same_has ids x apart = by (holds ids x) refl
    where
      by : (held : Bool) → holds ids x ≡ held → (held && list_any (λ (entry : Entry). same_ltxid entry.ltxid x) (image ++ gained)) ≡ (held && list_any (λ (entry : Entry). same_ltxid entry.ltxid x) gained)
      by false is = refl
      by true is =
          list_any-append (λ (entry : Entry). same_ltxid entry.ltxid x) image gained
          ∙ ap (λ (test : Bool). test || list_any (λ (entry : Entry). same_ltxid entry.ltxid x) gained) (none_has ids x image is apart)

  same_count : (ids : List Ltxid) → is_apart image ids ≡ true → count_in (image ++ gained) ids ≡ count_in gained ids
  same_count ids apart = ap length (same_in ids apart)

  same_end : (failed : Option Failure) (ids : List Ltxid) → is_apart image ids ≡ true → may_end (image ++ gained) failed ids ≡ may_end gained failed ids
  same_end None ids apart = ap (λ (n : ℕ). n == 0) (same_count ids apart)
  same_end (Some (failure.Incomplete x)) ids apart = same_has ids x apart
  same_end (Some (failure.Retries tries)) ids apart = ap (λ (n : ℕ). nat_le n 1) (same_count ids apart)
  same_end (Some (failure.Unknown x)) ids apart = ap (λ (n : ℕ). nat_le n 1) (same_count ids apart)
  same_end (Some other) ids apart = ap (λ (n : ℕ). n == 0) (same_count ids apart)

  -- so a transaction has as many behind them as in all
  abbrev txn_ends : List Entry → Option Failure → Txn → Bool
  txn_ends entries failed txn = committed_has_one entries txn && (dropped_has_none entries txn && last_ends entries failed txn)

  same_txn : (failed : Option Failure) (txn : Txn) → is_apart image txn.tried ≡ true → txn_ends (image ++ gained) failed txn ≡ txn_ends gained failed txn
  same_txn failed txn apart =
      ap (λ (n : ℕ). (not (is_shown_committed txn) || (n == 1)) && ((not (is_shown_dropped txn) || (n == 0)) && last_ends (image ++ gained) failed txn)) (same_count txn.tried apart)
      ∙ ap (λ (test : Bool). committed_has_one gained txn && (dropped_has_none gained txn && (not (is_last txn) || test))) (same_end failed txn.tried apart)

  none_apart : (entries : List Entry) → is_apart entries [] ≡ true
  none_apart [] = refl
  none_apart (entry ∷ entries) = none_apart entries

  each_apart : (parts : List (List ShownCall)) (lists : List (List Ltxid)) → list_all (is_apart image) lists ≡ true → list_all (λ (txn : Txn). is_apart image txn.tried) (with_tried parts lists) ≡ true
  each_apart [] lists all = refl
  each_apart (part ∷ parts) [] all = and_from (is_apart image []) (list_all (λ (txn : Txn). is_apart image txn.tried) (with_tried parts [])) (none_apart image) (each_apart parts [] all)
  each_apart (part ∷ parts) (ids ∷ lists) all =
      let both = and_parts (is_apart image ids) (list_all (is_apart image) lists) all in and_from (is_apart image ids) (list_all (λ (txn : Txn). is_apart image txn.tried) (with_tried parts lists)) both.0 (each_apart parts lists both.1)

  pub later_ends : (report : RequestReport) → list_all (is_apart image) report.tried ≡ true → request_ends (image ++ gained) report ≡ true → request_ends gained report ≡ true
  later_ends report apart ends =
      weaker_all (λ (txn : Txn). txn_ends (image ++ gained) report.failed txn && is_apart image txn.tried) (txn_ends gained report.failed) (with_tried (txns report.calls) report.tried)
      (λ txn here.
      let both = and_parts (txn_ends (image ++ gained) report.failed txn) (is_apart image txn.tried) here in
      sym (same_txn report.failed txn both.1) ∙ both.0)
      (both_all (txn_ends (image ++ gained) report.failed) (λ (txn : Txn). is_apart image txn.tried) (with_tried (txns report.calls) report.tried) ends (each_apart (txns report.calls) report.tried apart))

-- COPIES THAT ARE NOT THERE -----------------------------------------------------------------------

pub none_in : (entries : List Entry) → entries_in entries [] ≡ []
none_in [] = refl
none_in (entry ∷ entries) = none_in entries

pub no_copies : (entries : List Entry) (requests : List Request) → list_all (copies_have_one entries) (copies_of requests []) ≡ true
no_copies entries [] = refl
no_copies entries (request ∷ requests) =
    and_from (copies_have_one entries (record { request = request; reports = [] })) (list_all (copies_have_one entries) (copies_of requests []))
    (or_right (request.again == 0) _
    (subst (λ (list : List Entry). (nat_le (length list) 1 && list_all (λ (entry : Entry). holds [] entry.ltxid) list) ≡ true) (sym (none_in entries)) refl))
    (no_copies entries requests)

-- LISTS OF IDENTIFIERS ----------------------------------------------------------------------------

later_ids : (ids more : List Ltxid) → ids_differ (ids ++ more) ≡ true → ids_differ more ≡ true
later_ids [] more differ = differ
later_ids (x ∷ ids) more differ = later_ids ids more (and_parts (not (holds (ids ++ more) x)) (ids_differ (ids ++ more)) differ).1

-- what stands in the first part does not stand in the rest
not_twice : (ids more : List Ltxid) (x : Ltxid) → ids_differ (ids ++ more) ≡ true → holds ids x ≡ true → holds more x ≡ true → ⊥
not_twice [] more x differ mine its = let none : ⊥ = cc in none
not_twice (y ∷ ids) more x differ mine its = by (or_cases (same_ltxid x y) (holds ids x) mine) (λ later. not_twice ids more x parts.1 later its)
  where
    parts : (not (holds (ids ++ more) y) ≡ true) × (ids_differ (ids ++ more) ≡ true)
    parts = and_parts (not (holds (ids ++ more) y)) (ids_differ (ids ++ more)) differ

    by : (same_ltxid x y ≡ true) ⊎ (holds ids x ≡ true) → (holds ids x ≡ true → ⊥) → ⊥
    by (inl same) again =
        not_both (holds (ids ++ more) y) (holds_append ids more y ∙ or_right (holds ids y) (holds more y) (ap (holds more) (sym ((same_ltxid_decides x y).0 same)) ∙ its)) (not-true (holds (ids ++ more) y) parts.0)
    by (inr later) again = again later

abbrev pub flat : List (List Ltxid) → List Ltxid
flat lists = flat_map (λ ids. ids) lists

none_holds : (x : Ltxid) (lists : List (List Ltxid)) → (holds (flat lists) x ≡ true → ⊥) → count_by (λ ids. holds ids x) lists ≡ 0
none_holds x [] never = refl
none_holds x (ids ∷ lists) never =
    let rest : count_by (λ one. holds one x) lists ≡ 0 = none_holds x lists (λ later. never (holds_append ids (flat lists) x ∙ or_right (holds ids x) (holds (flat lists) x) later)) in
    let none : holds ids x ≡ false = false_by (holds ids x) (λ here. never (holds_append ids (flat lists) x ∙ or_left (holds ids x) (holds (flat lists) x) here)) in
    let here : ◌≡◌ {A = ℕ} (cond (holds ids x) 1 0) 0 = ap (λ (test : Bool). cond test 1 0) none in
    let all : count_by (λ one. holds one x) (ids ∷ lists) ≡ cond (holds ids x) 1 0 + count_by (λ one. holds one x) lists = sum_by-cons (λ (one : List Ltxid). cond (holds one x) 1 0) ids lists in
    omega (arith, rest, here, all)

-- where no identifier stands twice, one that some list holds is in one of them
pub holds_once : (x : Ltxid) (lists : List (List Ltxid)) → ids_differ (flat lists) ≡ true → list_any (λ ids. holds ids x) lists ≡ true → count_by (λ ids. holds ids x) lists ≡ 1
holds_once x [] differ any = absurd (let none : ⊥ = cc in none)
holds_once x (ids ∷ lists) differ any =
    sum_by-cons (λ (one : List Ltxid). cond (holds one x) 1 0) ids lists
    ∙ by (holds ids x) refl any (λ later. holds_once x lists (later_ids ids (flat lists) differ) later)
  where
    by : (here : Bool) → holds ids x ≡ here → (here || list_any (λ one. holds one x) lists) ≡ true → (list_any (λ one. holds one x) lists ≡ true → count_by (λ one. holds one x) lists ≡ 1) → cond here 1 0 + count_by (λ one. holds one x) lists ≡ 1
    by true is any later = ap (λ (n : ℕ). 1 + n) (none_holds x lists (λ its. not_twice ids (flat lists) x differ is its))
    by false is any later = let rest : count_by (λ one. holds one x) lists ≡ 1 = later any in omega (arith, rest)

-- the lists of some requests, in one
pub flat_tried : (reports : List RequestReport) → flat (flat_map (λ report. report.tried) reports) ≡ flat_map ids_tried reports
flat_tried [] = refl
flat_tried (report ∷ reports) = flat_map-append (λ ids. ids) report.tried (flat_map (λ one. one.tried) reports) ∙ ap (λ (rest : List Ltxid). flat report.tried ++ rest) (flat_tried reports)
