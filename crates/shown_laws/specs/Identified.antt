-- The identifiers under which calls were shown, beside the entries that a report tells.
use Rattle.std.specs.Prelude.{◌≡◌, ℕ, Bool, true, IsTrue, List, map, Some, None}
use Rattle.std.specs.List.{list_all}
use Rattle.std.specs.Option.{option_map_or}
use Rattle.svc_values.specs.declared.entry.Ltxid.{Ltxid}
use Rattle.svc_values.specs.meaning.Identifiers.{same_ltxid}
use Rattle.outage_schedule.specs.declared.document.Document.{Document}
use Rattle.outage_schedule.specs.declared.item.Served.{Served}
use Rattle.outage_schedule.specs.declared.report.Report.{Report}
use Rattle.run_clauses.specs.meaning.Before.{journal_before}
use Rattle.run_clauses.specs.meaning.EntryEvents.{stored_entries}
use Rattle.server_model.specs.Runs.{Server}
use Rattle.server_model.specs.Seen.{Seen}
use Rattle.shown_clauses.specs.meaning.Parts.{parts_of}
use Rattle.shown_clauses.specs.meaning.Showings.{identifier_at, have_identifiers}
use Rattle.shown_clauses.specs.meaning.Steps.{Step as StepTold, steps_of}
use Rattle.world_model.specs.meaning.Clients.{Step, Client, client_at}
use Rattle.world_model.specs.records.Ready.{all_requests_right}
use Rattle.world_model.specs.Reported.{IsReported}
use Rattle.world_model.specs.meaning.Settings.{Setting}
use Rattle.world_model.specs.Traced.{Traced}
use Rattle.shown_laws.specs.ReportsTold.{HoldsOfReports, of_parts}
use Rattle.shown_laws.specs.Submitted.{submission_of}
use Rattle.shown_laws.specs.Telling.{steps_told}
use Rattle.shown_laws.specs.Tellings.{Telling, TellsClient}

-- the session of an item, with the number of its entries that were stored up to the event of it
abbrev pub identifier_by : Document → Report → Served → Ltxid
identifier_by document report one = identifier_at (journal_before document).entries
    (stored_entries report) one

-- the call that a step showed, if it showed one, was shown under this identifier
abbrev pub shows_under : Ltxid → Step → Bool
shows_under x step = option_map_or (λ shown. same_ltxid shown.ltxid x) step.done.act.shown true

-- what was shown at a step that is told was shown under that of the item which it took
abbrev pub is_identified : Document → Report → Telling → Bool
is_identified document report one = option_map_or
    (λ served. list_all (shows_under (identifier_by document report served)) one.acts)
    one.step.taken true

-- The steps that are told of a client are those of its requests, and at each of them that is so.
pub record TellsIdentified (setting : Setting) (test : Telling → Bool) (client : ℕ) (own : Client)
    (told : List StepTold) : Type 0 where
  pub tells : TellsClient setting client own told
  pub past : IsTrue (list_all (list_all test) tells.past)
  pub now : IsTrue (list_all test tells.now)

abbrev pub CallsAreIdentified : Type 0
CallsAreIdentified =
    (document : Document) (report : Report) (seen : Seen) (t : Traced) (server : Server)
    (client : ℕ) (own : Client)
    → IsTrue (all_requests_right document) → IsReported document report seen t server
    → client_at t.machine.clients client ≡ Some own
    → TellsIdentified t.setting (is_identified document report) client own
    (steps_of client (steps_told report.notes report.served))

-- Each call of a report has the identifier of the item that showed it: this line of `Whole` holds
-- of each part of a client that is at no request, at the end of a whole run.
abbrev pub IdentifiersAreStored : Type 0
IdentifiersAreStored =
    (document : Document) (report : Report) (seen : Seen) (t : Traced) (server : Server)
    (client : ℕ) (own : Client)
    → IsTrue (all_requests_right document) → IsReported document report seen t server
    → client_at t.machine.clients client ≡ Some own → own.now ≡ None
    → IsTrue (list_all (have_identifiers (journal_before document).entries (stored_entries report))
    (parts_of (map submission_of own.past)
    (steps_of client (steps_told report.notes report.served))))

-- so of each part of its report
abbrev pub ReportsIdentifyCalls : Type 0
ReportsIdentifyCalls = HoldsOfReports (λ document report.
    of_parts (have_identifiers (journal_before document).entries (stored_entries report)) document
    report)
