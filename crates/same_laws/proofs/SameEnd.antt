-- What holds of each request that is over, with the journal at the end of a run, holds of the
-- request's report in the run's own: the lines of Same.
use Rattle.std.proofs.Common.{◌≡◌, refl, sym, ap, subst, ◌∙◌, Bool, true, false, ℕ, suc, ◌+◌, append_assoc, drop, length, map, take, List, [], ◌∷◌, ◌++◌, Option, Some}
use Rattle.std.specs.Prelude.{slice_get}
use Rattle.std.specs.List.{list_all}
use Rattle.std.proofs.lemmas.Bool.{and_parts, and_from}
use Rattle.std.proofs.lemmas.List.{append-nil}
use Rattle.std.proofs.lemmas.List.Elements.{filter-append}
use Rattle.std.proofs.lemmas.List.Folds.{list_all-append}
use Rattle.svc_values.specs.declared.call.Call.{Call}
use Rattle.svc_values.specs.declared.draw.Draw.{Draw}
use Rattle.svc_values.specs.declared.entry.Entry.{Entry}
use Rattle.svc_values.specs.declared.entry.Ltxid.{Ltxid}
use Rattle.svc_values.specs.meaning.SettingsList.{NamedValues, with_sets}
use Rattle.outage_schedule.specs.declared.document.Client.{Client as Scripted}
use Rattle.outage_schedule.specs.declared.document.Document.{Document}
use Rattle.outage_schedule.specs.declared.document.Request.{Request}
use Rattle.outage_schedule.specs.declared.report.Report.{Report}
use Rattle.outage_schedule.specs.declared.request.RequestReport.{RequestReport}
use Rattle.run_clauses.specs.meaning.Before.{journal_before}
use Rattle.run_clauses.specs.meaning.Copies.{Copies, copies_by_client, copies_of}
use Rattle.run_clauses.specs.meaning.Once.{entries_in}
use Rattle.run_clauses.specs.meaning.Same.{are_same, are_same_copies, is_same, is_same_request, is_same_txn, same, unshown}
use Rattle.run_clauses.specs.meaning.Transactions.{Txn, txns_of}
use Rattle.run_clauses.specs.meaning.Tried.{holds}
use Rattle.server_model.specs.Runs.{Server}
use Rattle.server_model.specs.Seen.{Seen}
use Rattle.world_model.specs.meaning.Clients.{Client, Doing, Past, reports_of, script_at}
use Rattle.world_model.specs.Coupled.{Coupled}
use Rattle.world_model.specs.Parts.{implies}
use Rattle.world_model.specs.Reported.{IsReported}
use Rattle.invariant_laws.specs.Same.{granted_by, over_same}
use Rattle.world_model.specs.meaning.Settings.{Setting, setting_of}
use Rattle.world_model.specs.Traced.{Traced, Course, courses_from, courses_of_clients}
use Rattle.world_model.proofs.Offered.{weaker_all, finishing_coupled, finishing_reached, finishing_setting}
use Rattle.invariant_laws.proofs.Offered.{one_copy}
use Rattle.once_laws.proofs.Offered.{script_is}
use Rattle.same_laws.proofs.ScriptsExact.{AreScripts, runs_scripted}

-- THE ENTRIES OF THE RUN --------------------------------------------------------------------------

module _ (granted : Draw → Bool) (image gained : List Entry) where
  pub later_in : (test : Entry → Bool) (ids : List Ltxid) → list_all test (entries_in (image ++ gained) ids) ≡ true → list_all test (entries_in gained ids) ≡ true
  later_in test ids all =
      (and_parts (list_all test (entries_in image ids)) (list_all test (entries_in gained ids))
      (sym (list_all-append test (entries_in image ids) (entries_in gained ids)) ∙ (ap (list_all test) (sym (filter-append (λ (entry : Entry). holds ids entry.ltxid) image gained)) ∙ all))).1

  later_txn : (settings : NamedValues) (calls : List Call) (txn : Txn) → is_same_txn granted (image ++ gained) settings calls txn ≡ true → is_same_txn granted gained settings calls txn ≡ true
  later_txn settings calls txn all = later_in (is_same granted settings calls txn.shown) txn.tried all

  later_same : (settings : NamedValues) (script : List Call) (more : ℕ) (txns : List Txn) → are_same granted (image ++ gained) settings script more txns ≡ true → are_same granted gained settings script more txns ≡ true
  later_same settings script more [] all = refl
  later_same settings script more (txn ∷ []) all = later_txn settings (take (length txn.shown + more) script) txn all
  later_same settings script more (txn ∷ next ∷ txns) all =
      let parts = and_parts (is_same_txn granted (image ++ gained) settings (take (length txn.shown) script) txn) _ all in
      and_from (is_same_txn granted gained settings (take (length txn.shown) script) txn) (are_same granted gained (with_sets settings (take (length txn.shown) script)) (drop (length txn.shown) script) more (next ∷ txns))
      (later_txn settings (take (length txn.shown) script) txn parts.0) (later_same (with_sets settings (take (length txn.shown) script)) (drop (length txn.shown) script) more (next ∷ txns) parts.1)

  pub later_request : (request : Request) (copy : RequestReport) → is_same_request granted (image ++ gained) request copy ≡ true → is_same_request granted gained request copy ≡ true
  later_request request copy all = later_same request.settings request.calls (unshown copy) (txns_of copy) all

-- THE COPIES OF REQUESTS --------------------------------------------------------------------------

-- what holds of each request and its report holds of each copy of a script's request
module _ (test : Request → RequestReport → Bool) where
  abbrev pub of_copies : Copies → Bool
  of_copies copies = list_all (test copies.request) copies.reports

  abbrev pub of_past : Past → Bool
  of_past past = test past.request past.report

  none_yet : (script : List Request) → list_all of_copies (copies_of script []) ≡ true
  none_yet [] = refl
  none_yet (request ∷ script) = none_yet script

  more_copies : (request : Request) (report : RequestReport) → test request report ≡ true → (mine : List RequestReport) → list_all (test request) mine ≡ true → list_all (test request) (mine ++ report ∷ []) ≡ true
  more_copies request report here mine all =
      list_all-append (test request) mine (report ∷ []) ∙ and_from (list_all (test request) mine) (list_all (test request) (report ∷ [])) all (and_from (test request report) true here refl)

  by_past : (script : List Request) (before : List RequestReport) (past : List Past) → list_all of_copies (copies_of script before) ≡ true → AreScripts script before past → list_all of_past past ≡ true
      → list_all of_copies (copies_of script (before ++ reports_of past)) ≡ true
  by_past script before [] so are all = ap (λ (reports : List RequestReport). list_all of_copies (copies_of script reports)) (append-nil before) ∙ so
  by_past script before (one ∷ past) so are all =
      let parts = and_parts (of_past one) (list_all of_past past) all in
      ap (λ (reports : List RequestReport). list_all of_copies (copies_of script reports)) (sym (append_assoc before (one.report ∷ []) (reports_of past)))
      ∙ by_past script (before ++ one.report ∷ []) past
      (one_copy of_copies of_copies (λ copies is. is) one.request one.report (more_copies one.request one.report parts.0) script before are.0 so) are.1 parts.1

  -- of all that a client submitted
  pub copies_so : (script : List Request) (past : List Past) → AreScripts script [] past → list_all of_past past ≡ true → list_all of_copies (copies_of script (reports_of past)) ≡ true
  copies_so script past are all = by_past script [] past (none_yet script) are all

  -- OF EACH REQUEST THAT IS OVER ----------------------------------------------------------------

  abbrev if_over : Course → Bool
  if_over course = implies course.is_over (test course.request course.report)

  past_from : (setting : Setting) (number place : ℕ) (past : List Past) (now : Option Doing) → list_all if_over (courses_from setting number place past now) ≡ true → list_all of_past past ≡ true
  past_from setting number place [] now all = refl
  past_from setting number place (one ∷ past) now all =
      let parts = and_parts (of_past one) (list_all if_over (courses_from setting number (place + 1) past now)) all in and_from (of_past one) (list_all of_past past) parts.0 (past_from setting number (place + 1) past now parts.1)

  pub by_client : (setting : Setting) (scripts : List Scripted) (clients : List Client) (number : ℕ) → ((index : ℕ) (script : Scripted) (client : Client) → slice_get scripts index ≡ Some script → slice_get clients index ≡ Some client → AreScripts script.requests [] client.past)
      → list_all if_over (courses_of_clients setting number clients) ≡ true → list_all (list_all of_copies) (copies_by_client scripts (map (λ (client : Client). reports_of client.past) clients)) ≡ true
  by_client setting [] clients number are all = refl
  by_client setting (script ∷ scripts) [] number are all = and_from (list_all of_copies (copies_of script.requests [])) (list_all (list_all of_copies) (copies_by_client scripts [])) (none_yet script.requests) (by_client setting scripts [] number (λ index one client is at. absurd (let none : ⊥ = cc in none)) refl)
  by_client setting (script ∷ scripts) (client ∷ clients) number are all =
      let parts = and_parts (list_all if_over (courses_from setting number 0 client.past client.now)) (list_all if_over (courses_of_clients setting (number + 1) clients))
      (sym (list_all-append if_over (courses_from setting number 0 client.past client.now) (courses_of_clients setting (number + 1) clients)) ∙ all) in
      and_from (list_all of_copies (copies_of script.requests (reports_of client.past))) (list_all (list_all of_copies) (copies_by_client scripts (map (λ (one : Client). reports_of one.past) clients)))
      (copies_so script.requests client.past (are 0 script client refl refl) (past_from setting number 0 client.past client.now parts.0))
      (by_client setting scripts clients (number + 1) (λ index one other is at. are (suc index) one other is at) parts.1)

-- THE REPORT --------------------------------------------------------------------------------------

module _ (document : Document) (report : Report) (seen : Seen) (t : Traced) (server : Server) (is : IsReported document report seen t server) where
  abbrev pub image : List Entry
  image = (journal_before document).entries

  coupled : Coupled seen t
  coupled = finishing_coupled document is.run.place report.notes report.served seen t is.run.finishing

  pub all_entries : t.entries ≡ image ++ report.entries
  all_entries = coupled.entries ∙ is.gained

  setting_is : t.setting ≡ setting_of document
  setting_is = finishing_setting document is.run.place report.notes report.served seen t is.run.finishing

  pub scripted : (index : ℕ) (script : Scripted) (client : Client) → slice_get document.clients index ≡ Some script → slice_get t.machine.clients index ≡ Some client → AreScripts script.requests [] client.past
  scripted index script client at here =
      let reached = finishing_reached document is.run.place report.notes report.served seen t is.run.finishing in
      let so = runs_scripted document reached.0 report.notes report.served seen t reached.1 index client here in
      subst (λ (requests : List Request). AreScripts requests [] client.past) (ap (λ (setting : Setting). script_at setting (suc index)) setting_is ∙ script_is document.clients index script at) so.0

  -- the clause, where each request that is over has it with the journal
  pub same_reported : over_same (granted_by document) t ≡ true → same document report ≡ true
  same_reported over =
      ap (λ (transcripts : List (List RequestReport)). list_all (list_all (are_same_copies (granted_by document) report.entries)) (copies_by_client document.clients transcripts)) is.clients
      ∙ by_client (λ request copy. is_same_request (granted_by document) report.entries request copy) t.setting document.clients t.machine.clients 1 scripted
      (weaker_all (λ course. implies course.is_over (is_same_request (granted_by document) t.entries course.request course.report)) (λ course. implies course.is_over (is_same_request (granted_by document) report.entries course.request course.report))
      (courses_of_clients t.setting 1 t.machine.clients) one over)
    where
      one : (course : Course) → implies course.is_over (is_same_request (granted_by document) t.entries course.request course.report) ≡ true → implies course.is_over (is_same_request (granted_by document) report.entries course.request course.report) ≡ true
      one course here = by course.is_over here
        where
          by : (over : Bool) → implies over (is_same_request (granted_by document) t.entries course.request course.report) ≡ true → implies over (is_same_request (granted_by document) report.entries course.request course.report) ≡ true
          by false here = refl
          by true here = later_request (granted_by document) image report.entries course.request course.report (subst (λ (entries : List Entry). is_same_request (granted_by document) entries course.request course.report ≡ true) all_entries here)
