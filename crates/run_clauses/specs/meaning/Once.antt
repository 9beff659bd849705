-- Each transaction stands in the journal at most once.
use Rattle.std.specs.Prelude.{ℕ, ◌==◌, ◌&&◌, ◌||◌, Bool, true, not, nat_le, List, [], ◌∷◌, length, filter, count_by, flat_map, Option, Some, None}
use Rattle.std.specs.List.{list_all, list_any, last_or}
use Rattle.std.specs.Option.{option_map_or}
use Rattle.svc_values.specs.declared.entry.Ltxid.{Ltxid}
use Rattle.svc_values.specs.declared.entry.Entry.{Entry}
use Rattle.svc_values.specs.meaning.Identifiers.{same_ltxid}
use Rattle.outage_schedule.specs.declared.document.Document.{Document}
use Rattle.outage_schedule.specs.declared.failure.Failure.{Failure}
use Rattle.outage_schedule.specs.declared.failure.Failure.TheVariants as failure
use Rattle.svc_values.specs.declared.entry.SessionId.{SessionId}
use Rattle.outage_schedule.specs.declared.request.RequestReport.{RequestReport}
use Rattle.outage_schedule.specs.declared.report.Report.{Report}
use Rattle.run_clauses.specs.meaning.Sessions.{outside_sessions, is_foreign}
use Rattle.run_clauses.specs.meaning.Transactions.{Txn, txns_of, is_shown_committed, is_shown_dropped, is_last, each_request, requests_in}
use Rattle.run_clauses.specs.meaning.Tried.{holds, ids_tried, tried_fits}
use Rattle.run_clauses.specs.meaning.Copies.{Copies, each_copies}

-- the entries whose identifiers are among these
abbrev pub entries_in : List Entry → List Ltxid → List Entry
entries_in entries ids = filter (λ entry. holds ids entry.ltxid) entries

abbrev pub count_in : List Entry → List Ltxid → ℕ
count_in entries ids = length (entries_in entries ids)

abbrev pub all_tried : Report → List (List Ltxid)
all_tried report = flat_map (λ request. request.tried) (requests_in report)

-- Each entry of J that is not foreign has its identifier in exactly one `tried(t)`, of these lists.
abbrev pub is_tried_once : List SessionId → List (List Ltxid) → Entry → Bool
is_tried_once outside lists entry = is_foreign outside entry.ltxid
    || (count_by (λ ids. holds ids entry.ltxid) lists == 1)

abbrev pub entries_tried_once : Report → Bool
entries_tried_once report = list_all (is_tried_once (outside_sessions report.notes)
    (all_tried report)) report.entries

-- No two entries have one identifier.
abbrev pub entries_differ : List Entry → Bool
entries_differ [] = true
entries_differ (entry ∷ entries) = not (list_any (λ other. same_ltxid entry.ltxid other.ltxid)
    entries) && entries_differ entries

-- No `tried(t)` holds the identifiers of two entries.
abbrev pub no_list_has_two : Report → Bool
no_list_has_two report = list_all (λ ids. nat_le (count_in report.entries ids) 1) (all_tried report)

-- the entries of all copies of a request, and those of its last copy
abbrev pub entries_of_copies : List Entry → List RequestReport → List Entry
entries_of_copies entries copies = entries_in entries (flat_map ids_tried copies)

abbrev pub ids_of_last : Option RequestReport → List Ltxid
ids_of_last copy = option_map_or ids_tried copy []

-- Over all copies of one request with `again` above 0 there is at most one entry, and its
-- identifier is in a list of the last copy.
abbrev pub copies_have_one : List Entry → Copies → Bool
copies_have_one entries copies =
    (copies.request.again == 0)
    || (nat_le (length (entries_of_copies entries copies.reports)) 1
    && list_all (λ entry. holds (ids_of_last (last_or None copies.reports)) entry.ltxid)
    (entries_of_copies entries copies.reports))

abbrev pub all_copies_have_one : Document → Report → Bool
all_copies_have_one document report = each_copies (copies_have_one report.entries) document report

-- A transaction shown Committed has one entry.
abbrev pub committed_has_one : List Entry → Txn → Bool
committed_has_one entries txn = not (is_shown_committed txn) || (count_in entries txn.tried == 1)

-- A transaction shown Conflict or RolledBack has none.
abbrev pub dropped_has_none : List Entry → Txn → Bool
dropped_has_none entries txn = not (is_shown_dropped txn) || (count_in entries txn.tried == 0)

abbrev pub has_entry_in : List Entry → List Ltxid → Ltxid → Bool
has_entry_in entries ids x = holds ids x && list_any (λ entry. same_ltxid entry.ltxid x) entries

-- A copy that failed with Incomplete(x) has the entry x in its last transaction. After Retries or
-- Unknown the last transaction has at most one entry. Without a Failed, or with Disabled, Mismatch,
-- Replays, ReplayTimeout or PoolWait, it has none.
abbrev pub may_end : List Entry → Option Failure → List Ltxid → Bool
may_end entries None ids = count_in entries ids == 0
may_end entries (Some (failure.Incomplete x)) ids = has_entry_in entries ids x
may_end entries (Some (failure.Retries tries)) ids = nat_le (count_in entries ids) 1
may_end entries (Some (failure.Unknown x)) ids = nat_le (count_in entries ids) 1
may_end entries (Some _) ids = count_in entries ids == 0

abbrev pub last_ends : List Entry → Option Failure → Txn → Bool
last_ends entries failed txn = not (is_last txn) || may_end entries failed txn.tried

-- all of that, of each transaction of a request
abbrev pub request_ends : List Entry → RequestReport → Bool
request_ends entries request =
    list_all (λ txn. committed_has_one entries txn
    && (dropped_has_none entries txn && last_ends entries request.failed txn)) (txns_of request)

abbrev pub requests_end : Report → Bool
requests_end report = each_request (request_ends report.entries) report

-- `Once`
abbrev pub once : Document → Report → Bool
once document report =
    tried_fits report
    && (entries_tried_once report
    && (entries_differ report.entries
    && (no_list_has_two report
    && (all_copies_have_one document report
    && requests_end report))))
