-- The clause that entries are what their clients know sees no writes.
use Rattle.std.proofs.Common.{◌≡◌, ℕ, ◌+◌, ◌&&◌, Bool, List, [], ◌∷◌, map, length, take, drop, refl, ap, ap₂, ◌∙◌}
use Rattle.std.proofs.Math.Path.{fun_ext}
use Rattle.std.specs.List.{list_all}
use Rattle.svc_values.specs.declared.draw.Draw.{Draw}
use Rattle.svc_values.specs.declared.call.Call.{Call}
use Rattle.svc_values.specs.declared.entry.Entry.{Entry}
use Rattle.svc_values.specs.meaning.SettingsList.{NamedValues, with_sets}
use Rattle.outage_schedule.specs.declared.document.Request.{Request}
use Rattle.outage_schedule.specs.declared.request.RequestReport.{RequestReport}
use Rattle.server_model.specs.meaning.NewValues.{grants}
use Rattle.run_clauses.specs.meaning.ServiceBase.{service_base}
use Rattle.run_clauses.specs.meaning.Transactions.{Txn, txns_of}
use Rattle.run_clauses.specs.meaning.Copies.{Copies, each_copies}
use Rattle.run_clauses.specs.meaning.Once.{entries_in}
use Rattle.run_clauses.specs.meaning.Same.{is_same, is_same_txn, are_same, unshown, is_same_request, are_same_copies}
use Rattle.report_text.specs.Laws.{shown_entry}
use Rattle.printed_laws.specs.Laws.{SameSeesNoWrites}
use Rattle.printed_laws.proofs.ShownEntries.{all_shown, in_shown}

txn_shown : (granted : Draw → Bool) (es : List Entry) (settings : NamedValues) (calls : List Call) (txn : Txn)
    → is_same_txn granted (map shown_entry es) settings calls txn ≡ is_same_txn granted es settings calls txn
txn_shown granted es settings calls txn =
    ap (list_all (is_same granted settings calls txn.shown)) (in_shown es txn.tried)
    ∙ all_shown (is_same granted settings calls txn.shown) (λ _. refl) (entries_in es txn.tried)

txns_shown : (granted : Draw → Bool) (es : List Entry) (settings : NamedValues) (script : List Call) (more : ℕ) (txns : List Txn)
    → are_same granted (map shown_entry es) settings script more txns ≡ are_same granted es settings script more txns
txns_shown granted es settings script more [] = refl
txns_shown granted es settings script more (txn ∷ []) = txn_shown granted es settings (take (length txn.shown + more) script) txn
txns_shown granted es settings script more (txn ∷ next ∷ txns) =
    ap₂ (λ (a b : Bool). a && b) (txn_shown granted es settings (take (length txn.shown) script) txn)
    (txns_shown granted es (with_sets settings (take (length txn.shown) script)) (drop (length txn.shown) script) more (next ∷ txns))

request_shown : (granted : Draw → Bool) (es : List Entry) (request : Request) (copy : RequestReport)
    → is_same_request granted (map shown_entry es) request copy ≡ is_same_request granted es request copy
request_shown granted es request copy = txns_shown granted es request.settings request.calls (unshown copy) (txns_of copy)

copies_shown : (granted : Draw → Bool) (es : List Entry) (copies : Copies) → are_same_copies granted (map shown_entry es) copies ≡ are_same_copies granted es copies
copies_shown granted es copies = ap (λ (test : RequestReport → Bool). list_all test copies.reports) (fun_ext (request_shown granted es copies.request))

pub same_shown : SameSeesNoWrites
same_shown document r = ap (λ (test : Copies → Bool). each_copies test document r) (fun_ext (copies_shown (grants (service_base document)) r.entries))
