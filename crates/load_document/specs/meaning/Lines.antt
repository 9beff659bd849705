-- What `load` prints of the report of its run.
use Rattle.std.specs.Prelude.{ℕ, Bool, is_some, List, [], ◌∷◌, length, filter, flat_map, codes}
use Rattle.serde_json.specs.Data.{Data}
use Rattle.json_form.specs.meaning.Writing.{whole, integer, members}
use Rattle.svc_values.specs.meaning.Endings.{ends_committed, ends_conflict}
use Rattle.outage_schedule.specs.declared.request.ShownCall.{ShownCall}
use Rattle.outage_schedule.specs.declared.request.RequestReport.{RequestReport}
use Rattle.outage_schedule.specs.declared.report.Report.{Report}
use Rattle.load_document.specs.declared.line.LoadLine.{LoadLine}
use Rattle.load_document.specs.meaning.Loads.{total}

-- the reports of all requests of these clients, and all calls that requests were shown
abbrev pub requests_in : List (List RequestReport) → List RequestReport
requests_in clients = flat_map (λ reports. reports) clients

abbrev pub shown_in : List RequestReport → List ShownCall
shown_in requests = flat_map (λ one. one.calls) requests

-- the call ended with Committed, and with Conflict
unfoldable pub was_committed : ShownCall → Bool
was_committed one = ends_committed one.answers

unfoldable pub was_conflict : ShownCall → Bool
was_conflict one = ends_conflict one.answers

-- how many of these calls ended so, and how many requests failed
abbrev pub committed_in : List ShownCall → ℕ
committed_in calls = length (filter was_committed calls)

abbrev pub conflict_in : List ShownCall → ℕ
conflict_in calls = length (filter was_conflict calls)

abbrev pub failed_in : List RequestReport → ℕ
failed_in requests = length (filter (λ one. is_some one.failed) requests)

-- the counts of a report: of shown calls, of entries, of notes and of requests, and what stands on
-- all accounts
abbrev pub line_of : Report → LoadLine
line_of report = record {
  committed = committed_in (shown_in (requests_in report.clients));
  conflict = conflict_in (shown_in (requests_in report.clients));
  entries = length report.entries;
  events = length report.notes;
  failed = failed_in (requests_in report.clients);
  total = total report;
}

-- as JSON: {"committed":59,"conflict":20,"entries":59,"events":1195,"failed":1,"total":16000}
unfoldable pub line_value : LoadLine → Data
line_value line = members ((codes "committed", whole line.committed)
    ∷ (codes "conflict", whole line.conflict) ∷ (codes "entries", whole line.entries)
    ∷ (codes "events", whole line.events) ∷ (codes "failed", whole line.failed)
    ∷ (codes "total", integer line.total) ∷ [])
