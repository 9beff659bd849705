-- The identifiers under which the transactions of a request may have committed.
use Rattle.std.specs.Prelude.{◌==◌, ◌&&◌, Bool, true, not, List, [], ◌∷◌, length, flat_map}
use Rattle.std.specs.List.{list_any}
use Rattle.svc_values.specs.declared.entry.Ltxid.{Ltxid}
use Rattle.svc_values.specs.meaning.Identifiers.{same_ltxid}
use Rattle.outage_schedule.specs.declared.request.RequestReport.{RequestReport}
use Rattle.outage_schedule.specs.declared.report.Report.{Report}
use Rattle.run_clauses.specs.meaning.Transactions.{txns, each_request, requests_in}

abbrev pub holds : List Ltxid → Ltxid → Bool
holds ids x = list_any (same_ltxid x) ids

-- A request has as many lists as transactions.
abbrev pub has_its_lists : RequestReport → Bool
has_its_lists request = length request.tried == length (txns request.calls)

abbrev pub ids_differ : List Ltxid → Bool
ids_differ [] = true
ids_differ (x ∷ ids) = not (holds ids x) && ids_differ ids

-- all identifiers of the lists of a request
abbrev pub ids_tried : RequestReport → List Ltxid
ids_tried request = flat_map (λ ids. ids) request.tried

-- No identifier stands in two lists of the report.
abbrev pub tried_differ : Report → Bool
tried_differ report = ids_differ (flat_map ids_tried (requests_in report))

-- what a report alone tells of its lists
abbrev pub tried_fits : Report → Bool
tried_fits report = each_request has_its_lists report && tried_differ report
