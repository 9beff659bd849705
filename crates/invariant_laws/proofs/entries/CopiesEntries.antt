-- Over all copies of a request there is one entry at most, and it is of the last one: by what each
-- copy has.
use Rattle.std.proofs.Common.{◌≡◌, refl, ap, ◌∙◌, Bool, true, false, ◌&&◌, ◌||◌, length, flat_map, List, [], ◌∷◌, ◌++◌, None, if◌then◌else◌, arith}
use Rattle.std.specs.Prelude.{◌==◌, nat_le}
use Rattle.std.specs.List.{list_all, last_or}
use Rattle.std.proofs.lemmas.Bool.{and_parts, and_from}
use Rattle.std.proofs.lemmas.List.{append-nil}
use Rattle.svc_values.specs.declared.call.Call.{Call}
use Rattle.svc_values.specs.declared.entry.Entry.{Entry}
use Rattle.svc_values.specs.declared.entry.Ltxid.{Ltxid}
use Rattle.outage_schedule.specs.declared.request.RequestReport.{RequestReport}
use Rattle.run_clauses.specs.meaning.Copies.{Copies, may_be_repeated}
use Rattle.run_clauses.specs.meaning.Once.{entries_in, entries_of_copies, ids_of_last, copies_have_one}
use Rattle.run_clauses.specs.meaning.Tried.{holds, ids_tried}
use Rattle.world_model.specs.Parts.{implies}
use Rattle.world_model.specs.records.Ready.{is_one_transaction, is_rightly_repeated}
use Rattle.world_model.proofs.Offered.{filter_passes, implied, eq_from}
use Rattle.invariant_laws.proofs.entries.CopiesOf.{are_repeated}
use Rattle.invariant_laws.proofs.entries.OnceLists.{none_in}
use Rattle.invariant_laws.proofs.entries.TriedApart.{holds_append}

-- ONE COPY ----------------------------------------------------------------------------------------

-- of a request that is one transaction, it has one entry at most
abbrev pub is_few : List Entry → List Call → RequestReport → Bool
is_few entries calls report = implies (is_one_transaction calls) (nat_le (length (entries_in entries (ids_tried report))) 1)

-- and none where it is submitted again
abbrev pub is_clear : List Entry → List Call → RequestReport → Bool
is_clear entries calls report = implies (is_one_transaction calls) (implies (may_be_repeated report.failed) (length (entries_in entries (ids_tried report)) == 0))

-- COPIES ------------------------------------------------------------------------------------------

abbrev pub are_full : List Entry → Copies → Bool
are_full entries copies = list_all (λ report. is_few entries copies.request.calls report && is_clear entries copies.request.calls report) copies.reports

-- the last one has one at most, and each before it none where it is submitted again
abbrev pub last_few : List Entry → List Call → List RequestReport → Bool
last_few entries calls [] = true
last_few entries calls (copy ∷ []) = is_few entries calls copy
last_few entries calls (copy ∷ next ∷ others) = is_clear entries calls copy && last_few entries calls (next ∷ others)

module _ (entries : List Entry) (calls : List Call) where
  abbrev full : RequestReport → Bool
  full report = is_few entries calls report && is_clear entries calls report

  pub full_last : (reports : List RequestReport) → list_all full reports ≡ true → last_few entries calls reports ≡ true
  full_last [] all = refl
  full_last (copy ∷ []) all = (and_parts (is_few entries calls copy) (is_clear entries calls copy) (and_parts (full copy) true all).0).0
  full_last (copy ∷ next ∷ others) all =
      let parts = and_parts (full copy) (list_all full (next ∷ others)) all in
      and_from (is_clear entries calls copy) (last_few entries calls (next ∷ others)) (and_parts (is_few entries calls copy) (is_clear entries calls copy) parts.0).1 (full_last (next ∷ others) parts.1)

  pub one_last : (reports : List RequestReport) (report : RequestReport) → list_all full reports ≡ true → is_few entries calls report ≡ true → last_few entries calls (reports ++ report ∷ []) ≡ true
  one_last [] report all few = few
  one_last (copy ∷ []) report all few =
      and_from (is_clear entries calls copy) (is_few entries calls report) (and_parts (is_few entries calls copy) (is_clear entries calls copy) (and_parts (full copy) true all).0).1 few
  one_last (copy ∷ next ∷ others) report all few =
      let parts = and_parts (full copy) (list_all full (next ∷ others)) all in
      and_from (is_clear entries calls copy) (last_few entries calls ((next ∷ others) ++ report ∷ [])) (and_parts (is_few entries calls copy) (is_clear entries calls copy) parts.0).1 (one_last (next ∷ others) report parts.1 few)

-- ENTRIES -----------------------------------------------------------------------------------------

pub no_reports : (entries : List Entry) → (nat_le (length (entries_in entries [])) 1 && list_all (λ entry. holds [] entry.ltxid) (entries_in entries [])) ≡ true
no_reports entries = ap (λ (all : List Entry). nat_le (length all) 1 && list_all (λ entry. holds [] entry.ltxid) all) (none_in entries)

-- identifiers without an entry add none
none_added : (ids more : List Ltxid) (entries : List Entry) → length (entries_in entries ids) ≡ 0 → entries_in entries (ids ++ more) ≡ entries_in entries more
none_added ids more [] none = refl
none_added ids more (entry ∷ entries) none = by (holds ids entry.ltxid) refl none (none_added ids more entries)
  where
    by : (held : Bool) → holds ids entry.ltxid ≡ held → length (if held then entry ∷ entries_in entries ids else entries_in entries ids) ≡ 0 → (length (entries_in entries ids) ≡ 0 → entries_in entries (ids ++ more) ≡ entries_in entries more)
        → entries_in (entry ∷ entries) (ids ++ more) ≡ entries_in (entry ∷ entries) more
    by true is none again = absurd (let never : ⊥ = omega (arith, none) in never)
    by false is none again =
        let same : holds (ids ++ more) entry.ltxid ≡ holds more entry.ltxid = holds_append ids more entry.ltxid ∙ ap (λ (held : Bool). held || holds more entry.ltxid) is in
        ap (λ (test : Bool). if test then entry ∷ entries_in entries (ids ++ more) else entries_in entries (ids ++ more)) same
        ∙ ap (λ (rest : List Entry). if holds more entry.ltxid then entry ∷ rest else rest) (again none)

module _ (entries : List Entry) (calls : List Call) (whole : is_one_transaction calls ≡ true) where
  -- the entries of all copies are those of the last one
  pub only_last : (copy : RequestReport) (others : List RequestReport) → are_repeated (copy ∷ others) ≡ true → last_few entries calls (copy ∷ others) ≡ true
      → (entries_of_copies entries (copy ∷ others) ≡ entries_in entries (ids_of_last (last_or None (copy ∷ others)))) × (nat_le (length (entries_in entries (ids_of_last (last_or None (copy ∷ others))))) 1 ≡ true)
  only_last copy [] repeated few =
      (ap (entries_in entries) (append-nil (ids_tried copy)), implied (is_one_transaction calls) (nat_le (length (entries_in entries (ids_tried copy))) 1) whole few)
  only_last copy (next ∷ others) repeated few =
      let again = and_parts (may_be_repeated copy.failed) (are_repeated (next ∷ others)) repeated in
      let parts = and_parts (is_clear entries calls copy) (last_few entries calls (next ∷ others)) few in
      let none : length (entries_in entries (ids_tried copy)) ≡ 0 =
      eq_from (length (entries_in entries (ids_tried copy))) 0
      (implied (may_be_repeated copy.failed) (length (entries_in entries (ids_tried copy)) == 0) again.0 (implied (is_one_transaction calls) (implies (may_be_repeated copy.failed) (length (entries_in entries (ids_tried copy)) == 0)) whole parts.0)) in
      let rest = only_last next others again.1 parts.1 in
      (none_added (ids_tried copy) (flat_map ids_tried (next ∷ others)) entries none ∙ rest.0, rest.1)

pub one_entry : (entries : List Entry) (copies : Copies) → is_rightly_repeated copies.request ≡ true → are_repeated copies.reports ≡ true → last_few entries copies.request.calls copies.reports ≡ true → copies_have_one entries copies ≡ true
one_entry entries copies right repeated few = by (copies.request.again == 0) right
  where
    has_one : (reports : List RequestReport) → is_one_transaction copies.request.calls ≡ true → are_repeated reports ≡ true → last_few entries copies.request.calls reports ≡ true
        → (nat_le (length (entries_of_copies entries reports)) 1 && list_all (λ entry. holds (ids_of_last (last_or None reports)) entry.ltxid) (entries_of_copies entries reports)) ≡ true
    has_one [] whole repeated few = no_reports entries
    has_one (copy ∷ others) whole repeated few =
        let only = only_last entries copies.request.calls whole copy others repeated few in
        let ids : List Ltxid = ids_of_last (last_or None (copy ∷ others)) in
        ap (λ (all : List Entry). nat_le (length all) 1 && list_all (λ entry. holds ids entry.ltxid) all) only.0
        ∙ and_from (nat_le (length (entries_in entries ids)) 1) (list_all (λ entry. holds ids entry.ltxid) (entries_in entries ids)) only.1 (filter_passes (λ entry. holds ids entry.ltxid) entries)

    by : (none : Bool) → (none || is_one_transaction copies.request.calls) ≡ true
        → (none || (nat_le (length (entries_of_copies entries copies.reports)) 1 && list_all (λ entry. holds (ids_of_last (last_or None copies.reports)) entry.ltxid) (entries_of_copies entries copies.reports))) ≡ true
    by true right = refl
    by false whole = has_one copies.reports whole repeated few
