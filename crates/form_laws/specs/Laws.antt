-- What a report tells that its events lead to, and of which what was served is legal.
use Rattle.std.specs.Prelude.{◌≡◌, ℕ, Bool, true, false, IsTrue, List, Ok}
use Rattle.std.specs.List.{list_all}
use Rattle.svc_values.specs.declared.call.Call.{Call}
use Rattle.svc_values.specs.declared.entry.Entry.{Entry}
use Rattle.outage_schedule.specs.declared.document.Document.{Document}
use Rattle.outage_schedule.specs.declared.event.Event.{Event}
use Rattle.outage_schedule.specs.declared.event.Event.TheVariants as event
use Rattle.outage_schedule.specs.declared.item.Item.{Item}
use Rattle.outage_schedule.specs.declared.item.Item.TheVariants as item
use Rattle.outage_schedule.specs.declared.report.Report.{Report}
use Rattle.doc_reader.specs.meaning.Documents.{document_at}
use Rattle.report_limits.specs.meaning.Reports.{KeepsLimits}
use Rattle.told_reports.specs.Keeping.{events_fit}
use Rattle.reading_laws.specs.Reports.{IsOfForm}
use Rattle.shown_clauses.specs.meaning.Legal.{legal_of}
use Rattle.world_model.specs.meaning.Followed.{followed}

-- the events of served items rise, and each names a note at which its item may stand
abbrev pub EventsAreFit : Type 0
EventsAreFit = (document : Document) (report : Report) → IsTrue (followed document report)
    → IsTrue (events_fit report.notes 0 report.served)

-- ---- calls, by a test of them

-- the calls of the clients' scripts pass
abbrev pub scripts_pass : (Call → Bool) → Document → Bool
scripts_pass test document = list_all (λ client. list_all (λ request. list_all test request.calls)
    client.requests) document.clients

-- the calls of an `outside` pass
abbrev pub event_passes : (Call → Bool) → Event → Bool
event_passes test (event.Outside calls) = list_all test calls
event_passes test _ = true

abbrev pub outsides_pass : (Call → Bool) → Document → Bool
outsides_pass test document = list_all (event_passes test) document.schedule

-- An item's call passes. (One of a frame that was refused is no item of a run.)
abbrev pub item_passes : (Call → Bool) → Item → Bool
item_passes test (item.Call replay call answers draws) = test call
item_passes test (item.Blocked call) = test call
item_passes test (item.CrashedCall replay call) = test call
item_passes test (item.Refused cause) = false
item_passes test _ = true

abbrev pub served_pass : (Call → Bool) → Report → Bool
served_pass test report = list_all (λ one. item_passes test one.item) report.served

-- an entry's calls pass
abbrev pub entry_passes : (Call → Bool) → Entry → Bool
entry_passes test entry = list_all (λ piece. test piece.call) entry.pieces

-- What holds of each call of the scripts holds of each call that was served, and no frame was
-- refused.
abbrev pub ServedCallsPass : Type 0
ServedCallsPass =
    (test : Call → Bool) (document : Document) (report : Report)
    → IsTrue (scripts_pass test document) → IsTrue (followed document report)
    → IsTrue (served_pass test report)

-- What holds of each call that was served, and of each that ran from outside, holds of each call of
-- an entry.
abbrev pub StoredCallsPass : Type 0
StoredCallsPass =
    (test : Call → Bool) (document : Document) (report : Report)
    → IsTrue (outsides_pass test document) → IsTrue (served_pass test report)
    → IsTrue (legal_of document report)
    → IsTrue (list_all (entry_passes test) report.entries)

-- ---- the form

-- A report of a document that was read, to which its events lead and of which what was served is
-- legal, has the form that reports have, where it keeps to the limits of its types.
abbrev pub ReportsHaveTheForm : Type 0
ReportsHaveTheForm =
    (bytes : List ℕ) (document : Document) (report : Report) → document_at bytes ≡ Ok document
    → IsTrue (followed document report) → IsTrue (legal_of document report)
    → KeepsLimits report → IsOfForm report
