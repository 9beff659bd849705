-- What `Once` says of a report of which identifiers differ, by which identifiers are those of
-- entries.
use Rattle.std.specs.Prelude.{ℕ, ◌+◌, ◌==◌, ◌&&◌, ◌||◌, Bool, true, nat_le, List, [], ◌∷◌, length, filter, drop, map, flat_map, Option, Some, None, if◌then◌else◌}
use Rattle.std.specs.List.{list_all}
use Rattle.svc_values.specs.declared.entry.Ltxid.{Ltxid}
use Rattle.svc_values.specs.declared.entry.Entry.{Entry}
use Rattle.svc_values.specs.meaning.Endings.{ends_committed, ends_transaction}
use Rattle.outage_schedule.specs.declared.failure.Failure.{Failure}
use Rattle.outage_schedule.specs.declared.failure.Failure.TheVariants as failure
use Rattle.outage_schedule.specs.declared.request.ShownCall.{ShownCall}
use Rattle.outage_schedule.specs.declared.request.RequestReport.{RequestReport}
use Rattle.outage_schedule.specs.declared.document.Document.{Document}
use Rattle.outage_schedule.specs.declared.report.Report.{Report}
use Rattle.run_clauses.specs.meaning.Copies.{Copies, each_copies}
use Rattle.run_clauses.specs.meaning.Sessions.{outside_sessions, is_foreign}
use Rattle.run_clauses.specs.meaning.Transactions.{each_request}
use Rattle.run_clauses.specs.meaning.Tried.{holds, ids_differ, ids_tried}

-- how many identifiers are those of entries
abbrev pub known_in : (Ltxid → Bool) → List Ltxid → ℕ
known_in stored ids = length (filter stored ids)

abbrev pub at_most_one : (Ltxid → Bool) → List Ltxid → Bool
at_most_one stored ids = nat_le (known_in stored ids) 1

-- the first list, and those behind it
abbrev pub first_of : List (List Ltxid) → List Ltxid
first_of [] = []
first_of (ids ∷ lists) = ids

abbrev pub rest_of : List (List Ltxid) → List (List Ltxid)
rest_of [] = []
rest_of (ids ∷ lists) = lists

-- the last list of a request that failed so
abbrev pub may_end : (Ltxid → Bool) → Option Failure → List Ltxid → Bool
may_end stored (Some (failure.Incomplete x)) ids = holds ids x && stored x
may_end stored (Some (failure.Retries tries)) ids = nat_le (known_in stored ids) 1
may_end stored (Some (failure.Unknown x)) ids = nat_le (known_in stored ids) 1
may_end stored _ ids = known_in stored ids == 0

-- the list of a transaction that was shown to end with this call
abbrev pub ended_right : (Ltxid → Bool) → ShownCall → List Ltxid → Bool
ended_right stored call ids = known_in stored ids == (if ends_committed call.answers then 1 else 0)

-- the call ends its transaction
unfoldable pub is_end : ShownCall → Bool
is_end call = ends_transaction call.answers

-- the lists of the transactions that these calls end, and of the last one
abbrev pub ends_from : (Ltxid → Bool) → Option Failure → List (List Ltxid) → List ShownCall → Bool
ends_from stored failed lists [] = may_end stored failed (first_of lists)
ends_from stored failed lists (call ∷ calls) =
    if ends_transaction call.answers
    then (ended_right stored call (first_of lists) && ends_from stored failed (rest_of lists) calls)
    else ends_from stored failed lists calls

-- how many transactions are over behind a call, where so many were before it; none where its end is
-- not that of its transaction
abbrev pub over_behind : (Ltxid → Bool) → ShownCall → List (List Ltxid) → ℕ → Option ℕ
over_behind stored call lists over =
    if ends_transaction call.answers
    then (if ended_right stored call (first_of (drop over lists)) then Some (over + 1) else None)
    else Some over

abbrev pub ends_right : (Ltxid → Bool) → RequestReport → Bool
ends_right stored request = ends_from stored request.failed request.tried request.calls

-- ---- copies

-- the last copy may have an entry, and those before it none
abbrev pub most_of : List RequestReport → ℕ
most_of [] = 1
most_of (next ∷ copies) = 0

abbrev pub copies_known : (Ltxid → Bool) → List RequestReport → Bool
copies_known stored [] = true
copies_known stored (copy ∷ copies) = nat_le (known_in stored (ids_tried copy)) (most_of copies)
    && copies_known stored copies

abbrev pub have_one : (Ltxid → Bool) → Copies → Bool
have_one stored copies = (copies.request.again == 0) || copies_known stored copies.reports

-- ---- the whole of it

abbrev pub ids_of : List Entry → List Ltxid
ids_of entries = map (λ entry. entry.ltxid) entries

-- all identifiers of lists
abbrev pub all_ids : Report → List Ltxid
all_ids report = flat_map (λ requests. flat_map ids_tried requests) report.clients

-- what is left where the identifiers of lists differ, and those of entries
abbrev pub lists_right : (Ltxid → Bool) → Document → Report → Bool
lists_right stored document report =
    each_request (λ request. list_all (at_most_one stored) request.tried) report
    && (each_copies (have_one stored) document report && each_request (ends_right stored) report)

-- what is left where the identifiers of lists differ
abbrev pub entries_right : (Ltxid → Bool) → Document → Report → Bool
entries_right tried document report =
    list_all (λ x. is_foreign (outside_sessions report.notes) x || tried x) (ids_of report.entries)
    && (ids_differ (ids_of report.entries)
    && lists_right (holds (ids_of report.entries)) document report)
