-- Where no two answers that the clients of a report compared have one digest by chance, none do in
-- the state at the end of its run.
use Rattle.std.proofs.Common.{◌≡◌, refl, sym, ap, subst, ◌∙◌, Bool, true, false, ℕ, suc, zero, ◌+◌, ◌&&◌, ◌||◌, length, map, List, [], ◌∷◌, Option, Some, None}
use Rattle.std.specs.Prelude.{◌==◌, get_or, is_some, not, slice_get}
use Rattle.std.specs.List.{list_all, list_any}
use Rattle.std.specs.Option.{option_map_or}
use Rattle.std.specs.Cmp.Lexicographic.{pointwise}
use Rattle.std.specs.Str.{bytes_eq}
use Rattle.std.proofs.lemmas.Bool.{and_parts, and_from, or_parts}
use Rattle.svc_values.specs.declared.answer.Answer.{Answer}
use Rattle.svc_values.specs.declared.entry.Ltxid.{Ltxid}
use Rattle.svc_values.specs.declared.entry.SessionId.{SessionId}
use Rattle.svc_values.specs.meaning.Identifiers.{same_session, session_of}
use Rattle.svc_values.specs.meaning.Same.{same_answers, same_bool}
use Rattle.outage_schedule.specs.declared.document.Client.{Client as Scripted}
use Rattle.outage_schedule.specs.declared.document.Document.{Document}
use Rattle.outage_schedule.specs.declared.document.Request.{Request}
use Rattle.outage_schedule.specs.declared.report.Report.{Report}
use Rattle.outage_schedule.specs.declared.request.RequestReport.{RequestReport}
use Rattle.run_clauses.specs.meaning.Copies.{copies_by_client, next_of}
use Rattle.run_clauses.specs.meaning.NoClash.{do_not_clash, no_clash, replayed_in, request_does_not_clash}
use Rattle.run_clauses.specs.meaning.Reports.{report_of}
use Rattle.server_model.specs.Runs.{Server}
use Rattle.server_model.specs.Seen.{Seen}
use Rattle.world_model.specs.records.Basic.{is_named}
use Rattle.world_model.specs.meaning.Clients.{Client, Doing, Past, is_unfinished, reports_of, script_at}
use Rattle.world_model.specs.meaning.Followed.{tells_steps}
use Rattle.world_model.specs.meaning.Frames.{Sent}
use Rattle.invariant_laws.specs.Invariant.{Invariant}
use Rattle.world_model.specs.Orderly.{Orderly}
use Rattle.invariant_laws.specs.KeptLaws.{WholeRunsKeepInvariant}
use Rattle.world_model.specs.meaning.Links.{Link, link_at}
use Rattle.world_model.specs.records.Ready.{all_requests_right}
use Rattle.world_model.specs.Reported.{IsReported}
use Rattle.world_model.specs.RunLaws.{RunsAreOrderly}
use Rattle.world_model.specs.records.Script.{reports_rightly}
use Rattle.world_model.specs.meaning.Settings.{Setting, setting_of}
use Rattle.invariant_laws.specs.Shown.{calls_on, first_of, in_row, is_current, is_row, is_scripts, rows_on}
use Rattle.world_model.specs.Traced.{Traced, Course, courses_from, courses_of, courses_of_clients}
use Rattle.invariant_laws.specs.Verified.{is_no_clash, none_clash, on_held}
use Rattle.world_model.specs.records.Wire.{handled_from, is_sent_front}
use Rattle.world_model.specs.Words.{held_in}
use Rattle.world_model.proofs.Offered.{at_link, append_all, weaker_all, implied, finishing_reached, finishing_setting}
use Rattle.same_laws.proofs.CopiesFound.{clients_found}
use Rattle.invariant_laws.proofs.Offered.{held_session, both_all}
use Rattle.same_laws.proofs.NoClashEnd.{does_not_clash, each_clash_not, link_clash_not, mine_talks, pointwise_any, told_sessions}
use Rattle.once_laws.proofs.Offered.{script_is, is_mine, all_finished}
use Rattle.same_laws.proofs.SameEnd.{of_copies, of_past}
use Rattle.same_laws.proofs.ScriptsExact.{AreScripts, runs_scripted}
use Rattle.same_laws.proofs.ServedItems.{items_pass, reached_pass}
use Rattle.same_laws.proofs.SessionsSpoken.{runs_tell, told_links}
use Rattle.same_laws.proofs.SessionsTold.{has_spoken, held_some, reaches, told_on}

-- ALL REQUESTS ------------------------------------------------------------------------------------

none_got : (scripts : List Scripted) (index : ℕ) → slice_get scripts index ≡ None → get_or (map (λ (one : Scripted). one.requests) scripts) index [] ≡ []
none_got [] index none = refl
none_got (one ∷ scripts) zero none = absurd (let never : ⊥ = cc in never)
none_got (one ∷ scripts) (suc index) none = none_got scripts index none

module _ (setting : Setting) (test : Request → RequestReport → Bool) where
  abbrev of_course : Course → Bool
  of_course course = test course.request course.report

  courses_past : (number place : ℕ) (past : List Past) (now : Option Doing) → is_some now ≡ false → list_all (of_past test) past ≡ true → list_all of_course (courses_from setting number place past now) ≡ true
  courses_past number place [] None none all = refl
  courses_past number place [] (Some doing) none all = absurd (let never : ⊥ = cc in never)
  courses_past number place (one ∷ past) now none all =
      let parts = and_parts (of_past test one) (list_all (of_past test) past) all in and_from (of_past test one) (list_all of_course (courses_from setting number (place + 1) past now)) parts.0 (courses_past number (place + 1) past now none parts.1)

  courses_all : (number : ℕ) (clients : List Client) → list_any is_unfinished clients ≡ false → ((index : ℕ) (client : Client) → slice_get clients index ≡ Some client → list_all (of_past test) client.past ≡ true)
      → list_all of_course (courses_of_clients setting number clients) ≡ true
  courses_all number [] finished each = refl
  courses_all number (client ∷ clients) finished each =
      let parts = or_parts (is_unfinished client) (list_any is_unfinished clients) finished in
      append_all of_course (courses_from setting number 0 client.past client.now) (courses_of_clients setting (number + 1) clients)
      (courses_past number 0 client.past client.now (or_parts (is_some client.now) (is_some client.next) parts.0).0 (each 0 client refl)) (courses_all (number + 1) clients parts.1 (λ index one at. each (suc index) one at))

-- THE REPORT --------------------------------------------------------------------------------------

module _ (orderly : RunsAreOrderly) (keeps : WholeRunsKeepInvariant) (document : Document) (report : Report) (seen : Seen) (t : Traced) (server : Server) (calls : all_requests_right document ≡ true) (is : IsReported document report seen t server)
    (alike : no_clash document report ≡ true) where
  whole : Invariant t
  whole = keeps document report.notes report.served seen t calls is.run

  setting_is : t.setting ≡ setting_of document
  setting_is = finishing_setting document is.run.place report.notes report.served seen t is.run.finishing

  abbrev test : Request → RequestReport → Bool
  test = request_does_not_clash (replayed_in report.served)

  clause : list_all (list_all (of_copies test)) (copies_by_client document.clients (map (λ (client : Client). reports_of client.past) t.machine.clients)) ≡ true
  clause = ap (λ (transcripts : List (List RequestReport)). list_all (list_all (of_copies test)) (copies_by_client document.clients transcripts)) (sym is.clients) ∙ alike

  -- of each request that a client submitted
  of_client : (index : ℕ) (client : Client) → slice_get t.machine.clients index ≡ Some client → list_all (of_past test) client.past ≡ true
  of_client index client here = by (slice_get document.clients index) refl
    where
      scripted : AreScripts (get_or (map (λ (one : Scripted). one.requests) document.clients) index []) [] client.past
      scripted =
          let reached = finishing_reached document is.run.place report.notes report.served seen t is.run.finishing in
          subst (λ (requests : List Request). AreScripts requests [] client.past) (ap (λ (setting : Setting). script_at setting (suc index)) setting_is) (runs_scripted document reached.0 report.notes report.served seen t reached.1 index client here).0

      none_submitted : (past : List Past) → AreScripts [] [] past → list_all (of_past test) past ≡ true
      none_submitted [] are = refl
      none_submitted (one ∷ past) are = absurd (let first : next_of [] [] ≡ Some one.request = are.0 in let none : ⊥ = cc in none)

      by : (found : Option Scripted) → slice_get document.clients index ≡ found → list_all (of_past test) client.past ≡ true
      by (Some script) at =
          clients_found test document.clients t.machine.clients index script client at here (subst (λ (requests : List Request). AreScripts requests [] client.past) (script_is document.clients index script at) scripted) clause
      by None at = none_submitted client.past (subst (λ (requests : List Request). AreScripts requests [] client.past) (none_got document.clients index at) scripted)

  all_clash_not : list_all (λ course. test course.request course.report) (courses_of t) ≡ true
  all_clash_not = courses_all t.setting test 1 t.machine.clients (all_finished t.machine is.run.place is.run.over) of_client

  -- a request
  module _ (course : Course) (here : test course.request course.report ≡ true) (rows : rows_on t course ≡ true) (tells : told_links t.machine.links course ≡ true) (right : reports_rightly t course ≡ true) where
    items : list_all (items_pass (does_not_clash course.request course.report)) t.machine.links ≡ true
    items =
        let reached = finishing_reached document is.run.place report.notes report.served seen t is.run.finishing in
        reached_pass (does_not_clash course.request course.report) orderly document reached.0 report.notes report.served seen t calls reached.1 (each_clash_not course.request course.report report.served here)

    abbrev told : RequestReport
    told = report_of t.setting.terms course.request (map (λ step. step.done) course.steps)

    sessions : pointwise same_session told.sessions course.report.sessions ≡ true
    sessions =
        (and_parts (pointwise same_session told.sessions course.report.sessions) _
        (and_parts (tells_steps told course.report) (same_bool (is_some told.failed) (is_some course.report.failed)) (and_parts (length told.calls == length course.report.calls) _ right).1).0).0

    digests : (one other : List Answer) → do_not_clash one other ≡ (not (bytes_eq (t.setting.terms.digest one) (t.setting.terms.digest other)) || same_answers one other)
    digests one other = ap (λ (setting : Setting). not (bytes_eq (setting.terms.digest one) (setting.terms.digest other)) || same_answers one other) (sym setting_is)

    link_alike : (number : ℕ) (link : Link) → link_at t.machine.links number ≡ Some link → is_row course (is_current course number) (calls_on course link) ≡ true → told_on course.owner course.steps link ≡ true
        → list_all (is_no_clash t.setting.terms.digest course) link.served ≡ true
    link_alike number link there row tell =
        link_clash_not t.setting.terms.digest course digests link (at_link is_sent_front t.machine.links number link inv.wire.sent there) (at_link (λ l. handled_from 0 l.served) t.machine.links number link inv.wire.handled there)
        (at_link is_named t.machine.links number link inv.basic.named there)
        (and_parts (list_all (λ (s : Sent). is_scripts course s s.frame) (calls_on course link)) _ (and_parts (in_row (option_map_or (λ s. s.call) (first_of (calls_on course link)) 0) (calls_on course link)) _ row).1).0
        (at_link (items_pass (does_not_clash course.request course.report)) t.machine.links number link items there) session_told
      where
        inv : Orderly t
        inv = whole.orderly

        session_told : list_any (is_mine course) link.sent ≡ true → (session : SessionId) → link.session ≡ Some session → list_any (same_session session) course.report.sessions ≡ true
        session_told any session its =
            let held = held_some course.steps link.held (implied (has_spoken course.owner link.sent) (option_map_or (λ (x : Ltxid). reaches course.steps (session_of x)) link.held false) (mine_talks course link.sent any) tell) in
            let both : Some (session_of held.0) ≡ Some session = sym (held_session t inv.basic.named inv.basic.apart number link held.0 there held.1) ∙ its in
            let same : session_of held.0 ≡ session = cc in
            pointwise_any session told.sessions course.report.sessions sessions (told_sessions course.steps session (subst (λ (s : SessionId). reaches course.steps s ≡ true) same held.2))

    course_alike : on_held t course (λ link. list_all (is_no_clash t.setting.terms.digest course) link.served) ≡ true
    course_alike =
        weaker_all (λ number. option_map_or (λ link. is_row course (is_current course number) (calls_on course link)) (link_at t.machine.links number) false && option_map_or (told_on course.owner course.steps) (link_at t.machine.links number) true)
        (λ number. option_map_or (λ link. list_all (is_no_clash t.setting.terms.digest course) link.served) (link_at t.machine.links number) true) (held_in course.steps)
        (λ number both.
        let parts = and_parts (option_map_or (λ link. is_row course (is_current course number) (calls_on course link)) (link_at t.machine.links number) false) (option_map_or (told_on course.owner course.steps) (link_at t.machine.links number) true) both in
        by number (link_at t.machine.links number) refl parts.0 parts.1)
        (both_all (λ number. option_map_or (λ link. is_row course (is_current course number) (calls_on course link)) (link_at t.machine.links number) false) (λ number. option_map_or (told_on course.owner course.steps) (link_at t.machine.links number) true) (held_in course.steps) rows tells)
      where
        by : (number : ℕ) (found : Option Link) → link_at t.machine.links number ≡ found → option_map_or (λ link. is_row course (is_current course number) (calls_on course link)) found false ≡ true → option_map_or (told_on course.owner course.steps) found true ≡ true
            → option_map_or (λ link. list_all (is_no_clash t.setting.terms.digest course) link.served) found true ≡ true
        by number None there row tell = refl
        by number (Some link) there row tell = link_alike number link there row tell

  pub none_clashes : none_clash t ≡ true
  none_clashes =
      weaker_all (λ course. test course.request course.report && (rows_on t course && (told_links t.machine.links course && reports_rightly t course))) (λ course. on_held t course (λ link. list_all (is_no_clash t.setting.terms.digest course) link.served)) (courses_of t)
      (λ course all.
      let first = and_parts (test course.request course.report) (rows_on t course && (told_links t.machine.links course && reports_rightly t course)) all in
      let second = and_parts (rows_on t course) (told_links t.machine.links course && reports_rightly t course) first.1 in
      let third = and_parts (told_links t.machine.links course) (reports_rightly t course) second.1 in
      course_alike course first.0 second.0 third.0 third.1)
      (both_all (λ course. test course.request course.report) (λ course. rows_on t course && (told_links t.machine.links course && reports_rightly t course)) (courses_of t) all_clash_not
      (both_all (rows_on t) (λ course. told_links t.machine.links course && reports_rightly t course) (courses_of t) whole.shown.rows
      (both_all (told_links t.machine.links) (reports_rightly t) (courses_of t) told_all whole.orderly.script.reports)))
    where
      told_all : list_all (told_links t.machine.links) (courses_of t) ≡ true
      told_all = let reached = finishing_reached document is.run.place report.notes report.served seen t is.run.finishing in runs_tell orderly document reached.0 report.notes report.served seen t calls reached.1
