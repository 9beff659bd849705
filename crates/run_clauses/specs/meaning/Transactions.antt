-- The transactions of a request.
use Rattle.std.specs.Prelude.{◌||◌, Bool, true, false, not, List, [], ◌∷◌, flat_map, None}
use Rattle.std.specs.List.{list_all, last_or}
use Rattle.std.specs.Option.{option_map_or}
use Rattle.svc_values.specs.declared.answer.Answer.{Answer}
use Rattle.svc_values.specs.declared.entry.Ltxid.{Ltxid}
use Rattle.svc_values.specs.meaning.Endings.{ends_with, ends_committed, ends_conflict, ends_transaction, is_rolled_back}
use Rattle.outage_schedule.specs.declared.request.ShownCall.{ShownCall}
use Rattle.outage_schedule.specs.declared.request.RequestReport.{RequestReport}
use Rattle.outage_schedule.specs.declared.report.Report.{Report}

-- a call put first: into a part of its own where it ends its transaction, and else into the first
-- part
abbrev pub put_first : Bool → ShownCall → List (List ShownCall) → List (List ShownCall)
put_first true call parts = (call ∷ []) ∷ parts
put_first false call [] = (call ∷ []) ∷ []
put_first false call (part ∷ parts) = (call ∷ part) ∷ parts

-- `txns`: The shown calls are cut after each that ends with Committed, Conflict or RolledBack. The
-- last part holds those after that.
abbrev pub txns : List ShownCall → List (List ShownCall)
txns [] = [] ∷ []
txns (call ∷ calls) = put_first (ends_transaction call.answers) call (txns calls)

-- A transaction: the calls of it that were shown, and the identifiers under which it may have
-- committed.
pub record Txn : Type 0 where
  pub shown : List ShownCall
  pub tried : List Ltxid

-- the parts, each with its list; one without a list has no identifier
abbrev pub with_tried : List (List ShownCall) → List (List Ltxid) → List Txn
with_tried [] lists = []
with_tried (part ∷ parts) [] = record { shown = part; tried = [] } ∷ with_tried parts []
with_tried (part ∷ parts) (ids ∷ lists) = record {
  shown = part;
  tried = ids;
} ∷ with_tried parts lists

-- the transactions of a request
abbrev pub txns_of : RequestReport → List Txn
txns_of request = with_tried (txns request.calls) request.tried

-- the answers of the last call that was shown meet the test
abbrev pub is_shown : (List Answer → Bool) → Txn → Bool
is_shown test txn = option_map_or (λ call. test call.answers) (last_or None txn.shown) false

abbrev pub is_shown_committed : Txn → Bool
is_shown_committed txn = is_shown ends_committed txn

abbrev pub is_shown_dropped : Txn → Bool
is_shown_dropped txn = is_shown (λ answers. ends_conflict answers
    || ends_with is_rolled_back answers) txn

-- it is the last one of its request: no call that was shown ended it
abbrev pub is_last : Txn → Bool
is_last txn = not (is_shown ends_transaction txn)

-- it holds of each request of each client
abbrev pub each_request : (RequestReport → Bool) → Report → Bool
each_request test report = list_all (list_all test) report.clients

-- all requests of a report
abbrev pub requests_in : Report → List RequestReport
requests_in report = flat_map (λ transcript. transcript) report.clients
