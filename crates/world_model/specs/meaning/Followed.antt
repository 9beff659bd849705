-- `Followed`: the notes and the served items of a report are those that its events lead to.
use Rattle.std.specs.Prelude.{◌&&◌, Bool, false, List, [], ◌∷◌, map, Some, None, option_and_then}
use Rattle.std.specs.Cmp.Lexicographic.{pointwise}
use Rattle.svc_values.specs.declared.entry.Ltxid.{Ltxid}
use Rattle.svc_values.specs.meaning.Identifiers.{same_ltxid, same_session}
use Rattle.outage_schedule.specs.declared.document.Document.{Document}
use Rattle.outage_schedule.specs.declared.request.Outcome.{Outcome}
use Rattle.outage_schedule.specs.declared.request.RequestReport.{RequestReport}
use Rattle.outage_schedule.specs.declared.report.Report.{Report}
use Rattle.svc_values.specs.meaning.Same.{same_bool}
use Rattle.world_model.specs.meaning.Settings.{setting_of}
use Rattle.world_model.specs.meaning.Clients.{reports_of}
use Rattle.world_model.specs.meaning.Machines.{Machine, start_of}
use Rattle.world_model.specs.meaning.Walking.{walk}
use Rattle.world_model.specs.meaning.Finishing.{Finished, AtServer, walk_finish}

-- the whole run: the schedule, and then the finish
abbrev pub run_of : Document → Report → Finished
run_of document report =
    option_and_then (λ walked. walk_finish (setting_of document) walked.machine AtServer
    walked.notes walked.items)
    (walk (setting_of document) (start_of document) document.schedule report.notes report.served)

-- what the clients of a state were shown
abbrev pub transcripts_of : Machine → List (List RequestReport)
transcripts_of m = map (λ client. reports_of client.past) m.clients

abbrev pub same_outcome : Outcome → Outcome → Bool
same_outcome a b = same_ltxid a.ltxid b.ltxid
    && (same_bool a.committed b.committed && same_bool a.completed b.completed)

-- as many lists, each with the same identifiers in the same order
abbrev pub same_lists : List (List Ltxid) → List (List Ltxid) → Bool
same_lists lists others = pointwise (pointwise same_ltxid) lists others

-- A request's `sessions` are those that were lent to it or whose Hello it took, its `outcomes` are
-- the answers that it took, each with the identifier that was asked, and its `tried` are,
-- transaction by transaction, the identifiers under which it may have committed: those of the calls
-- with a commit that it sent without the mark and that have no reply, or one that ends with
-- Committed (`tried_of` of client_model, which is that of run_clauses).
abbrev pub tells_steps : RequestReport → RequestReport → Bool
tells_steps told reported =
    pointwise same_session told.sessions reported.sessions
    && (pointwise same_outcome told.outcomes reported.outcomes
    && same_lists told.tried reported.tried)

abbrev pub tell_steps : List (List RequestReport) → List (List RequestReport) → Bool
tell_steps told reported = pointwise (pointwise tells_steps) told reported

-- no item is left, and the clients were shown so
abbrev pub ends_so : Report → Finished → Bool
ends_so report None = false
ends_so report (Some (m, served ∷ items)) = false
ends_so report (Some (m, [])) = tell_steps (transcripts_of m) report.clients

abbrev pub followed : Document → Report → Bool
followed document report = ends_so report (run_of document report)
