-- A report whose requests failed with PoolWait alone shows every other one its whole script.
use Rattle.std.proofs.Common.{◌≡◌, refl, sym, ap, ◌∙◌, Bool, true, false, ℕ, List, [], ◌∷◌, length, Option, Some, None, ◌-◌}
use Rattle.std.specs.Prelude.{◌==◌, nat_le, is_none}
use Rattle.std.specs.List.{list_all}
use Rattle.std.proofs.lemmas.Bool.{and_parts, and_from, or_left, or_right}
use Rattle.svc_values.specs.meaning.Same.{same_bool}
use Rattle.outage_schedule.specs.declared.document.Client.{Client as Given}
use Rattle.outage_schedule.specs.declared.document.Request.{Request}
use Rattle.outage_schedule.specs.declared.failure.Failure.{Failure}
use Rattle.outage_schedule.specs.declared.request.RequestReport.{RequestReport}
use Rattle.run_clauses.specs.meaning.Copies.{is_repeated, with_copy, further_copies, copies_of, copies_by_client, shows_script, show_script, are_in_script_order, each_copies, has_its_reports}
use Rattle.server_model.specs.Laws.{RunsLast}
use Rattle.shown_clauses.specs.meaning.Submissions.{submissions_by_client}
use Rattle.shown_clauses.specs.meaning.Whole.{told_by, is_told_whole}
use Rattle.invariant_laws.specs.KeptLaws.{RunsKeepInvariant}
use Rattle.shown_laws.specs.Closing.{RunsLeaveUnclosed}
use Rattle.shown_laws.specs.WholeRuns.{RunsAreWhole}
use Rattle.world_model.specs.meaning.Clients.{Past, Client, reports_of}
use Rattle.world_model.proofs.Offered.{map_all}
use Rattle.run_clauses.specs.meaning.Before.{journal_before}
use Rattle.calm_laws.specs.meaning.Calm.{is_calm_event, blocks_past, has_waited, is_answered, answered_or_waited, copies_answered}
use Rattle.calm_laws.specs.CalmRuns.{CalmRunsAnswer}
use Rattle.calm_laws.proofs.CalmClients.{may_end, is_calm_past, is_calm_client}
use Rattle.calm_laws.proofs.CalmReached.{CalmState, finishing_calm}

-- ONE REPORT --------------------------------------------------------------------------------------

copy_answered : (request : Request) (copy : RequestReport) → shows_script request copy ≡ true → may_end copy.failed ≡ true → answered_or_waited request copy ≡ true
copy_answered request copy shows ends = by copy.failed refl
  where
    same : same_bool (length copy.calls == length request.calls) (is_none copy.failed) ≡ true
    same = (and_parts (nat_le (length copy.calls) (length request.calls)) (same_bool (length copy.calls == length request.calls) (is_none copy.failed)) shows).1

    all : (test : Bool) → same_bool test true ≡ true → test ≡ true
    all true is = refl
    all false is = absurd (let none : ⊥ = cc in none)

    by : (failed : Option Failure) → copy.failed ≡ failed → answered_or_waited request copy ≡ true
    by None is =
        let whole : (length copy.calls == length request.calls) ≡ true = all (length copy.calls == length request.calls) (ap (λ (one : Option Failure). same_bool (length copy.calls == length request.calls) (is_none one)) (sym is) ∙ same) in
        or_left (is_answered request copy) (has_waited copy.failed) (and_from (is_none copy.failed) (length copy.calls == length request.calls) (ap is_none is) whole)
    by (Some failure) is =
        or_right (is_answered request copy) (has_waited copy.failed) (ap has_waited is ∙ (ap may_end (sym is) ∙ ends))

copies_answer : (request : Request) (reports : List RequestReport) → list_all (shows_script request) reports ≡ true → list_all (λ copy. may_end copy.failed) reports ≡ true → list_all (answered_or_waited request) reports ≡ true
copies_answer request [] shows ends = refl
copies_answer request (copy ∷ reports) shows ends =
    let first = and_parts (shows_script request copy) (list_all (shows_script request) reports) shows in
    let second = and_parts (may_end copy.failed) (list_all (λ one. may_end one.failed) reports) ends in
    and_from (answered_or_waited request copy) (list_all (answered_or_waited request) reports) (copy_answered request copy first.0 second.0) (copies_answer request reports first.1 second.1)

-- ALL REPORTS -------------------------------------------------------------------------------------

abbrev ends_so : RequestReport → Bool
ends_so copy = may_end copy.failed

-- further copies are among the reports, and so are those that are left
further_end : (allowed : ℕ) (copy : RequestReport) (reports : List RequestReport) → list_all ends_so reports ≡ true
    → (list_all ends_so (further_copies allowed copy reports).0 ≡ true) × (list_all ends_so (further_copies allowed copy reports).1 ≡ true)
further_end allowed copy [] ends = (refl, refl)
further_end allowed copy (report ∷ reports) ends = by (is_repeated allowed copy) (further_end (allowed - 1) report reports parts.1)
  where
    parts : (ends_so report ≡ true) × (list_all ends_so reports ≡ true)
    parts = and_parts (ends_so report) (list_all ends_so reports) ends

    more : List RequestReport × List RequestReport
    more = further_copies (allowed - 1) report reports

    by : (repeated : Bool) → (list_all ends_so more.0 ≡ true) × (list_all ends_so more.1 ≡ true) → (list_all ends_so (with_copy repeated report reports more).0 ≡ true) × (list_all ends_so (with_copy repeated report reports more).1 ≡ true)
    by true rest = (and_from (ends_so report) (list_all ends_so more.0) parts.0 rest.0, rest.1)
    by false rest = (refl, ends)

script_answers : (script : List Request) (reports : List RequestReport) → list_all show_script (copies_of script reports) ≡ true → list_all ends_so reports ≡ true → list_all copies_answered (copies_of script reports) ≡ true
script_answers [] reports shows ends = refl
script_answers (request ∷ script) [] shows ends = script_answers script [] shows refl
script_answers (request ∷ script) (first ∷ reports) shows ends =
    let further = further_copies request.again first reports in
    let parts = and_parts (ends_so first) (list_all ends_so reports) ends in
    let so = further_end request.again first reports parts.1 in
    let both = and_parts (list_all (shows_script request) (first ∷ further.0)) (list_all show_script (copies_of script further.1)) shows in
    and_from (list_all (answered_or_waited request) (first ∷ further.0)) (list_all copies_answered (copies_of script further.1))
    (copies_answer request (first ∷ further.0) both.0 (and_from (ends_so first) (list_all ends_so further.0) parts.0 so.0)) (script_answers script further.1 both.1 so.1)

clients_answer : (clients : List Given) (transcripts : List (List RequestReport)) → list_all (list_all show_script) (copies_by_client clients transcripts) ≡ true → list_all (list_all ends_so) transcripts ≡ true
    → list_all (list_all copies_answered) (copies_by_client clients transcripts) ≡ true
clients_answer [] transcripts shows ends = refl
clients_answer (client ∷ clients) [] shows ends =
    let both = and_parts (list_all show_script (copies_of client.requests [])) (list_all (list_all show_script) (copies_by_client clients [])) shows in
    and_from (list_all copies_answered (copies_of client.requests [])) (list_all (list_all copies_answered) (copies_by_client clients [])) (script_answers client.requests [] both.0 refl) (clients_answer clients [] both.1 refl)
clients_answer (client ∷ clients) (transcript ∷ transcripts) shows ends =
    let both = and_parts (list_all show_script (copies_of client.requests transcript)) (list_all (list_all show_script) (copies_by_client clients transcripts)) shows in
    let parts = and_parts (list_all ends_so transcript) (list_all (list_all ends_so) transcripts) ends in
    and_from (list_all copies_answered (copies_of client.requests transcript)) (list_all (list_all copies_answered) (copies_by_client clients transcripts))
    (script_answers client.requests transcript both.0 parts.0) (clients_answer clients transcripts both.1 parts.1)

-- RUNS --------------------------------------------------------------------------------------------

client_ends : (client : Client) → is_calm_client client ≡ true → list_all ends_so (reports_of client.past) ≡ true
client_ends client calm = map_all is_calm_past ends_so (λ (past : Past). past.report) client.past (λ past one. one) (and_parts (list_all is_calm_past client.past) _ calm).0

pub calm_answer : RunsLast → RunsKeepInvariant → RunsLeaveUnclosed → RunsAreWhole → CalmRunsAnswer
calm_answer last kept unclosed whole document report seen t server right reported calm =
    and_from (are_in_script_order document.clients report.clients) (each_copies copies_answered document report) reports.0 (clients_answer document.clients report.clients reports.1 ends)
  where
    parts : (list_all is_calm_event document.schedule ≡ true) × (blocks_past (journal_before document) ≡ true)
    parts = and_parts (list_all is_calm_event document.schedule) (blocks_past (journal_before document)) calm

    reports : (are_in_script_order document.clients report.clients ≡ true) × (each_copies show_script document report ≡ true)
    reports =
        and_parts (are_in_script_order document.clients report.clients) (each_copies show_script document report)
        (and_parts (has_its_reports document report) (is_told_whole (told_by document report) (submissions_by_client document report)) (whole document report seen t server right reported)).0

    state : CalmState document seen t
    state = finishing_calm last kept unclosed document right parts.1 parts.0 reported.run.place report.notes report.served seen t reported.run.finishing

    ends : list_all (list_all ends_so) report.clients ≡ true
    ends =
        ap (list_all (list_all ends_so)) reported.clients
        ∙ map_all is_calm_client (list_all ends_so) (λ (client : Client). reports_of client.past) t.machine.clients client_ends state.machine.clients
