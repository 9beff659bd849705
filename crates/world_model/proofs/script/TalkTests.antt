-- What the tests of Script say of the conversations of all requests.
use Rattle.std.proofs.Common.{◌≡◌, refl, sym, ap, subst, Bool, true, false, ℕ, ◌+◌, ◌&&◌, List, [], ◌∷◌, length, Option, Some, None}
use Rattle.std.specs.Prelude.{◌==◌, is_some}
use Rattle.std.specs.List.{list_all}
use Rattle.std.specs.Cmp.Lexicographic.{pointwise}
use Rattle.std.proofs.lemmas.Bool.{and_from}
use Rattle.svc_values.specs.meaning.Same.{same_bool}
use Rattle.svc_values.specs.meaning.Identifiers.{same_ltxid, same_session}
use Rattle.outage_schedule.specs.declared.request.Outcome.{Outcome}
use Rattle.outage_schedule.specs.declared.request.RequestReport.{RequestReport}
use Rattle.client_model.specs.meaning.Terms.{Terms, Talk}
use Rattle.client_model.specs.meaning.Conversation.{Done, Timed, talk_at, done_at}
use Rattle.client_model.specs.Conversation.{steps_of, talk_after, may_come, is_gone_next, MayCome}
use Rattle.client_model.specs.meaning.Talk.{wants_of}
use Rattle.world_model.specs.meaning.Settings.{Setting}
use Rattle.world_model.specs.meaning.Clients.{Step, Doing, Past, Client}
use Rattle.world_model.specs.Traced.{Traced, Course, course_over, course_now, courses_from, courses_of_clients, courses_of}
use Rattle.world_model.specs.records.Conversing.{timed, inputs_of, first_talk, Converses, Talks, IsThrough, AreThrough, IsTalking, AllTalk}
use Rattle.world_model.specs.meaning.Followed.{same_outcome, same_lists, tells_steps}
use Rattle.run_clauses.specs.meaning.Reports.{report_of}
use Rattle.world_model.specs.records.Script.{same_sends, is_act_of, may_all_come, acts_follow, place_of, is_conversation, are_conversations, reports_rightly, report_rightly}
use Rattle.world_model.specs.Words.{dones_of}
use Rattle.world_model.proofs.events.AllLists.{append_all}
use Rattle.world_model.proofs.wire.SameSelf.{each_self, bool_self, ltxid_self, up_self}
use Rattle.world_model.proofs.events.Tests.{eq_to, session_self}

-- EACH REQUEST ------------------------------------------------------------------------------------

module _ (test : Course → Bool) (setting : Setting) (over : (client place : ℕ) (past : Past) → IsThrough setting.terms past → test (course_over client place past) ≡ true)
    (now : (client place : ℕ) (doing : Doing) → Talks setting.terms false doing → test (course_now setting client place doing) ≡ true) where
  of_client : (client place : ℕ) (past : List Past) (doing : Option Doing) → AreThrough setting.terms past → IsTalking setting.terms doing → list_all test (courses_from setting client place past doing) ≡ true
  of_client client place [] None through talks = refl
  of_client client place [] (Some doing) through talks = and_from (test (course_now setting client place doing)) true (now client place doing talks) refl
  of_client client place (one ∷ past) doing through talks =
      and_from (test (course_over client place one)) (list_all test (courses_from setting client (place + 1) past doing)) (over client place one through.0) (of_client client (place + 1) past doing through.1 talks)

  of_clients : (number : ℕ) (clients : List Client) → AllTalk setting.terms clients → list_all test (courses_of_clients setting number clients) ≡ true
  of_clients number [] all = refl
  of_clients number (client ∷ clients) all =
      append_all test (courses_from setting number 0 client.past client.now) (courses_of_clients setting (number + 1) clients)
      (of_client number 0 client.past client.now all.0.0 all.0.1) (of_clients (number + 1) clients all.1)

-- a test that each conversation passes
pub courses_talk : (test : Course → Bool) (t : Traced) → ((client place : ℕ) (past : Past) → IsThrough t.setting.terms past → test (course_over client place past) ≡ true)
    → ((client place : ℕ) (doing : Doing) → Talks t.setting.terms false doing → test (course_now t.setting client place doing) ≡ true) → AllTalk t.setting.terms t.machine.clients → list_all test (courses_of t) ≡ true
courses_talk test t over now all = of_clients test t.setting over now 1 t.machine.clients all

-- CONVERSATIONS -----------------------------------------------------------------------------------

may_all : (terms : Terms) (talk : Talk) (due : Bool) (inputs : List Timed) → MayCome terms talk due inputs → may_all_come terms talk due inputs ≡ true
may_all terms talk due [] may = refl
may_all terms talk due (one ∷ inputs) may =
    and_from (may_come due (wants_of terms talk one.1) one.0) (may_all_come terms (talk_at terms talk one) (is_gone_next one.0 (done_at terms talk one).act.hold) inputs) may.0
    (may_all terms (talk_at terms talk one) (is_gone_next one.0 (done_at terms talk one).act.hold) inputs may.1)

act_self : (done : Done) → is_act_of done done ≡ true
act_self done =
    and_from (same_sends done.act.send done.act.send) (same_bool (is_some done.act.shown) (is_some done.act.shown) && same_bool (is_some done.act.failed) (is_some done.act.failed)) (each_self _ up_self done.act.send)
    (and_from (same_bool (is_some done.act.shown) (is_some done.act.shown)) (same_bool (is_some done.act.failed) (is_some done.act.failed)) (bool_self (is_some done.act.shown)) (bool_self (is_some done.act.failed)))

acts_all : (terms : Terms) (talk : Talk) (steps : List Step) → dones_of steps ≡ steps_of terms talk (inputs_of steps) → acts_follow terms talk steps ≡ true
acts_all terms talk [] same = refl
acts_all terms talk (step ∷ steps) same =
    let first : step.done ≡ done_at terms talk (timed step) = cc in
    let later : dones_of steps ≡ steps_of terms (talk_at terms talk (timed step)) (inputs_of steps) = cc in
    and_from (is_act_of (done_at terms talk (timed step)) step.done) (acts_follow terms (talk_at terms talk (timed step)) steps)
    (subst (λ (done : Done). is_act_of done step.done ≡ true) first (act_self step.done)) (acts_all terms (talk_at terms talk (timed step)) steps later)

conversation_is : (t : Traced) (course : Course) → Converses t.setting.terms course.request course.steps
    → (talk_after t.setting.terms (first_talk course.request) (inputs_of course.steps)).phase ≡ course.phase → is_conversation t course ≡ true
conversation_is t course converses stands =
    let place : ℕ = place_of (talk_after t.setting.terms (first_talk course.request) (inputs_of course.steps)).phase in
    and_from (may_all_come t.setting.terms (first_talk course.request) false (inputs_of course.steps)) (acts_follow t.setting.terms (first_talk course.request) course.steps && (place == place_of course.phase))
    (may_all t.setting.terms (first_talk course.request) false (inputs_of course.steps) converses.may)
    (and_from (acts_follow t.setting.terms (first_talk course.request) course.steps) (place == place_of course.phase) (acts_all t.setting.terms (first_talk course.request) course.steps converses.acts)
    (eq_to place (place_of course.phase) (ap place_of stands)))

pub talks_converse : (t : Traced) → AllTalk t.setting.terms t.machine.clients → are_conversations t ≡ true
talks_converse t all =
    courses_talk (is_conversation t) t (λ client place past through. conversation_is t (course_over client place past) through.converses through.ended)
    (λ client place doing talks. conversation_is t (course_now t.setting client place doing) talks.converses (ap (λ (talk : Talk). talk.phase) talks.stands)) all

-- REPORTS -----------------------------------------------------------------------------------------

-- a report of these steps
abbrev reports_so : RequestReport → RequestReport → Bool
reports_so told report = (length told.calls == length report.calls) && (tells_steps told report && same_bool (is_some told.failed) (is_some report.failed))

outcome_self : (one : Outcome) → same_outcome one one ≡ true
outcome_self one =
    and_from (same_ltxid one.ltxid one.ltxid) (same_bool one.committed one.committed && same_bool one.completed one.completed) (ltxid_self one.ltxid)
    (and_from (same_bool one.committed one.committed) (same_bool one.completed one.completed) (bool_self one.committed) (bool_self one.completed))

pub steps_self : (report : RequestReport) → tells_steps report report ≡ true
steps_self report =
    and_from (pointwise same_session report.sessions report.sessions) (pointwise same_outcome report.outcomes report.outcomes && same_lists report.tried report.tried) (each_self same_session session_self report.sessions)
    (and_from (pointwise same_outcome report.outcomes report.outcomes) (same_lists report.tried report.tried) (each_self same_outcome outcome_self report.outcomes) (each_self (pointwise same_ltxid) (each_self same_ltxid ltxid_self) report.tried))

report_self : (report : RequestReport) → reports_so report report ≡ true
report_self report =
    and_from (length report.calls == length report.calls) (tells_steps report report && same_bool (is_some report.failed) (is_some report.failed)) (eq_to (length report.calls) (length report.calls) refl)
    (and_from (tells_steps report report) (same_bool (is_some report.failed) (is_some report.failed)) (steps_self report) (bool_self (is_some report.failed)))

pub talks_report : (t : Traced) → AllTalk t.setting.terms t.machine.clients → report_rightly t ≡ true
talks_report t all =
    courses_talk (reports_rightly t) t (λ client place past through. subst (λ (told : RequestReport). reports_so told past.report ≡ true) (sym through.reported) (report_self past.report))
    (λ client place doing talks. report_self (report_of t.setting.terms doing.request (dones_of doing.steps))) all
