-- The clause that each transaction is there at most once sees no writes.
use Rattle.std.proofs.Common.{◌≡◌, ℕ, ◌==◌, ◌&&◌, ◌||◌, not, nat_le, Bool, List, [], ◌∷◌, map, length, flat_map, Option, Some, None, refl, ap, ap₂, ◌∙◌}
use Rattle.std.proofs.Math.Path.{fun_ext}
use Rattle.std.specs.List.{list_all, last_or}
use Rattle.svc_values.specs.declared.entry.Ltxid.{Ltxid}
use Rattle.svc_values.specs.declared.entry.Entry.{Entry}
use Rattle.svc_values.specs.meaning.Identifiers.{same_ltxid}
use Rattle.outage_schedule.specs.declared.document.Document.{Document}
use Rattle.outage_schedule.specs.declared.failure.Failure.{Failure}
use Rattle.outage_schedule.specs.declared.failure.Failure.TheVariants as failure
use Rattle.outage_schedule.specs.declared.request.RequestReport.{RequestReport}
use Rattle.outage_schedule.specs.declared.report.Report.{Report}
use Rattle.run_clauses.specs.meaning.Sessions.{outside_sessions}
use Rattle.run_clauses.specs.meaning.Transactions.{Txn, txns_of, is_shown_committed, is_shown_dropped, is_last, each_request}
use Rattle.run_clauses.specs.meaning.Tried.{holds, ids_tried, tried_fits}
use Rattle.run_clauses.specs.meaning.Copies.{Copies, each_copies}
use Rattle.run_clauses.specs.meaning.Once.{entries_in, all_tried, is_tried_once, entries_tried_once, entries_differ, no_list_has_two, ids_of_last, copies_have_one, all_copies_have_one, may_end, committed_has_one, dropped_has_none, last_ends, request_ends, requests_end}
use Rattle.report_text.specs.Laws.{shown_entry, shown_report}
use Rattle.printed_laws.specs.Laws.{OnceSeesNoWrites}
use Rattle.printed_laws.proofs.ShownEntries.{all_shown, any_shown, length_shown, in_shown, count_shown, both}

tried_shown : (r : Report) → entries_tried_once (shown_report r) ≡ entries_tried_once r
tried_shown r = all_shown (is_tried_once (outside_sessions r.notes) (all_tried r)) (λ e. refl) r.entries

differ_shown : (es : List Entry) → entries_differ (map shown_entry es) ≡ entries_differ es
differ_shown [] = refl
differ_shown (e ∷ es) = ap₂ (λ (a b : Bool). not a && b) (any_shown (λ other. same_ltxid e.ltxid other.ltxid) (λ _. refl) es) (differ_shown es)

lists_shown : (r : Report) → no_list_has_two (shown_report r) ≡ no_list_has_two r
lists_shown r = ap (λ (count : List Ltxid → ℕ). list_all (λ ids. nat_le (count ids) 1) (all_tried r)) (fun_ext (count_shown r.entries))

-- ---- copies

abbrev one_at_most : Copies → List Entry → Bool
one_at_most copies found =
    (copies.request.again == 0) || (nat_le (length found) 1 && list_all (λ entry. holds (ids_of_last (last_or None copies.reports)) entry.ltxid) found)

found_shown : (copies : Copies) (found : List Entry) → one_at_most copies (map shown_entry found) ≡ one_at_most copies found
found_shown copies found =
    ap₂ (λ (n : ℕ) (all : Bool). (copies.request.again == 0) || (nat_le n 1 && all))
    (length_shown found) (all_shown (λ entry. holds (ids_of_last (last_or None copies.reports)) entry.ltxid) (λ _. refl) found)

copies_shown : (es : List Entry) (copies : Copies) → copies_have_one (map shown_entry es) copies ≡ copies_have_one es copies
copies_shown es copies =
    let ids = flat_map ids_tried copies.reports in
    ap (one_at_most copies) (in_shown es ids) ∙ found_shown copies (entries_in es ids)

all_copies_shown : (document : Document) (r : Report) → all_copies_have_one document (shown_report r) ≡ all_copies_have_one document r
all_copies_shown document r = ap (λ (test : Copies → Bool). each_copies test document r) (fun_ext (copies_shown r.entries))

-- ---- how requests end

ends_shown : (es : List Entry) (failed : Option Failure) (ids : List Ltxid) → may_end (map shown_entry es) failed ids ≡ may_end es failed ids
ends_shown es None ids = ap (λ (n : ℕ). n == 0) (count_shown es ids)
ends_shown es (Some (failure.Disabled why event)) ids = ap (λ (n : ℕ). n == 0) (count_shown es ids)
ends_shown es (Some (failure.Mismatch i seen now)) ids = ap (λ (n : ℕ). n == 0) (count_shown es ids)
ends_shown es (Some (failure.Incomplete x)) ids = ap (λ (b : Bool). holds ids x && b) (any_shown (λ entry. same_ltxid entry.ltxid x) (λ _. refl) es)
ends_shown es (Some (failure.Retries tries)) ids = ap (λ (n : ℕ). nat_le n 1) (count_shown es ids)
ends_shown es (Some (failure.ReplayTimeout first ready)) ids = ap (λ (n : ℕ). n == 0) (count_shown es ids)
ends_shown es (Some (failure.Replays limit event)) ids = ap (λ (n : ℕ). n == 0) (count_shown es ids)
ends_shown es (Some (failure.PoolWait first now)) ids = ap (λ (n : ℕ). n == 0) (count_shown es ids)
ends_shown es (Some (failure.Unknown x)) ids = ap (λ (n : ℕ). nat_le n 1) (count_shown es ids)

txn_shown : (es : List Entry) (failed : Option Failure) (txn : Txn)
    → (committed_has_one (map shown_entry es) txn && (dropped_has_none (map shown_entry es) txn && last_ends (map shown_entry es) failed txn))
    ≡ (committed_has_one es txn && (dropped_has_none es txn && last_ends es failed txn))
txn_shown es failed txn =
    ap₂ (λ (n : ℕ) (ends : Bool). (not (is_shown_committed txn) || (n == 1)) && ((not (is_shown_dropped txn) || (n == 0)) && (not (is_last txn) || ends)))
    (count_shown es txn.tried) (ends_shown es failed txn.tried)

request_shown : (es : List Entry) (request : RequestReport) → request_ends (map shown_entry es) request ≡ request_ends es request
request_shown es request = ap (λ (test : Txn → Bool). list_all test (txns_of request)) (fun_ext (txn_shown es request.failed))

requests_shown : (r : Report) → requests_end (shown_report r) ≡ requests_end r
requests_shown r = ap (λ (test : RequestReport → Bool). each_request test r) (fun_ext (request_shown r.entries))

-- ---- all of it

pub once_shown : OnceSeesNoWrites
once_shown document r =
    let ends = both _ _ _ _ (all_copies_shown document r) (requests_shown r) in
    let lists = both _ _ _ _ (lists_shown r) ends in
    let differ = both _ _ _ _ (differ_shown r.entries) lists in
    ap (λ (b : Bool). tried_fits r && b) (both _ _ _ _ (tried_shown r) differ)
