-- The lines of `Whole`, as they are judged.
use Rattle.std.proofs.Common.{◌≡◌, refl, sym, ap, ◌∙◌, ℕ, ◌+◌, Bool, true, false, length, reverse, List, [], ◌∷◌, ◌++◌, map, Option, Some, None, arith}
use Rattle.std.specs.Prelude.{◌&&◌, is_none, is_some}
use Rattle.std.specs.List.{flat_map, list_all}
use Rattle.std.proofs.lemmas.Bool.{and_left, and_right}
use Rattle.svc_values.specs.declared.entry.SessionId.{SessionId}
use Rattle.outage_schedule.specs.declared.document.Client.{Client}
use Rattle.outage_schedule.specs.declared.document.Document.{Document}
use Rattle.outage_schedule.specs.declared.document.Request.{Request}
use Rattle.outage_schedule.specs.declared.report.Report.{Report}
use Rattle.outage_schedule.specs.declared.request.RequestReport.{RequestReport}
use Rattle.run_clauses.specs.meaning.Before.{journal_before}
use Rattle.run_clauses.specs.meaning.Copies.{Copies, copies_by_client, is_in_script_order, are_in_script_order, shows_script, show_script, has_its_reports}
use Rattle.run_clauses.specs.meaning.EntryEvents.{stored_entries, stored_up_to}
use Rattle.shown_clauses.specs.meaning.Links.{Turn}
use Rattle.shown_clauses.specs.meaning.Steps.{Step, steps, steps_of, turns}
use Rattle.shown_clauses.specs.meaning.Submissions.{Submission, submissions_of, submissions_by_client}
use Rattle.shown_clauses.specs.meaning.Parts.{Part, parts_of, left_of, has_its_sessions}
use Rattle.shown_clauses.specs.meaning.Showings.{has_its_showings, calls_served, shown_calls}
use Rattle.shown_clauses.specs.meaning.Turns.{Owned, turns_right, turns_of, has_request, has_client}
use Rattle.shown_clauses.specs.meaning.Whole.{Evidence, told_by, are_taken, is_part_whole, is_client_whole, are_clients_whole, is_told_whole, whole}
use Rattle.report_story.specs.Plain.{plain_step}
use Rattle.whole_check.specs.Judging.{shows_own, has_number, is_part_right, is_client_right, are_clients_right, is_told_right}
use Rattle.whole_check.proofs.PlainLines.{told_plain}
use Rattle.whole_check.proofs.TurnedLines.{told_reversed}

-- ---- the reports

-- as many transcripts as clients
pub order_not : (clients : List Client) (transcripts : List (List RequestReport)) → (length clients ≡ length transcripts → ⊥) → are_in_script_order clients transcripts ≡ false
order_not [] [] other = absurd (other refl)
order_not [] (transcript ∷ transcripts) other = refl
order_not (client ∷ clients) [] other = refl
order_not (client ∷ clients) (transcript ∷ transcripts) other =
    and_right (is_in_script_order client.requests transcript) (are_in_script_order clients transcripts) (order_not clients transcripts (λ same. other (omega (arith, same))))

and_apart : (a b c : Bool) → ((a && b) && c) ≡ (a && (b && c))
and_apart true b c = refl
and_apart false b c = refl

shown_first : (request : Request) (reports : List RequestReport) (more : List Submission)
    → list_all shows_own (map (λ copy. record { request = request; copy = copy }) reports ++ more) ≡ (list_all (shows_script request) reports && list_all shows_own more)
shown_first request [] more = refl
shown_first request (copy ∷ reports) more =
    ap (λ t. shows_script request copy && t) (shown_first request reports more)
    ∙ sym (and_apart (shows_script request copy) (list_all (shows_script request) reports) (list_all shows_own more))

shown_flat : (copies : List Copies) → list_all shows_own (flat_map submissions_of copies) ≡ list_all show_script copies
shown_flat [] = refl
shown_flat (one ∷ copies) = shown_first one.request one.reports (flat_map submissions_of copies) ∙ ap (λ t. show_script one && t) (shown_flat copies)

shown_all : (all : List (List Copies)) → list_all (list_all shows_own) (map (flat_map submissions_of) all) ≡ list_all (list_all show_script) all
shown_all [] = refl
shown_all (copies ∷ all) = λ i. shown_flat copies i && shown_all all i

pub reports_are : (document : Document) (report : Report)
    → has_its_reports document report ≡ (are_in_script_order document.clients report.clients && list_all (list_all shows_own) (submissions_by_client document report))
reports_are document report =
    ap (λ t. are_in_script_order document.clients report.clients && t) (sym (shown_all (copies_by_client document.clients report.clients)))

-- ---- what is told, by numbers

part_is : (told : Evidence) (mine : List Owned) (part : Part) → is_part_whole told mine part ≡ is_part_right (stored_up_to told.image told.stored) mine part
part_is told mine part =
    let a = has_its_showings part in
    let b = calls_served part in
    let c = list_all (has_number (stored_up_to told.image told.stored)) (shown_calls part) in
    let d = turns_right mine part in
    ap (λ t. has_its_sessions part && t) (ap (λ t. a && t) (sym (and_apart b c d)) ∙ sym (and_apart a (b && c) d))

client_by : (told : Evidence) (client : ℕ) (submissions : List Submission) → is_client_whole told client submissions ≡ is_client_right (stored_up_to told.image told.stored) told.steps told.turns client submissions
client_by told client submissions =
    let mine = steps_of client told.steps in
    let its = turns_of client told.turns in
    (λ i. list_all (has_request (left_of submissions mine)) its && list_all (λ (part : Part). part_is told its part i) (parts_of submissions mine))

clients_by : (told : Evidence) (lists : List (List Submission)) (client : ℕ) → are_clients_whole told client lists ≡ are_clients_right (stored_up_to told.image told.stored) told.steps told.turns client lists
clients_by told [] client = refl
clients_by told (submissions ∷ lists) client = λ i. client_by told client submissions i && clients_by told lists (client + 1) i

pub told_is : (told : Evidence) (lists : List (List Submission)) → is_told_whole told lists ≡ is_told_right (stored_up_to told.image told.stored) told.steps told.turns lists
told_is told lists = ap (λ t. are_taken told.steps && (list_all (has_client (length lists)) told.turns && t)) (clients_by told lists 1)

-- ---- all of it

-- a fault of the reports
pub whole_not : (document : Document) (report : Report) (lists : List (List Submission)) → lists ≡ submissions_by_client document report
    → (are_in_script_order document.clients report.clients && list_all (list_all shows_own) lists) ≡ false → whole document report ≡ false
whole_not document report lists are wrong =
    ap (λ t. t && is_told_whole (told_by document report) (submissions_by_client document report))
    (reports_are document report ∙ (ap (λ (l : List (List Submission)). are_in_script_order document.clients report.clients && list_all (list_all shows_own) l) (sym are) ∙ wrong))

-- No fault of the reports; then it is the other lines, by what the code keeps.
pub whole_is : (document : Document) (report : Report) (lists : List (List Submission)) (numbers : SessionId → ℕ → ℕ) (seen : List Step) (turned : List Turn)
    → lists ≡ submissions_by_client document report
    → (are_in_script_order document.clients report.clients && list_all (list_all shows_own) lists) ≡ true
    → ((session : SessionId) (event : ℕ) → numbers session event ≡ stored_up_to (journal_before document).entries (stored_entries report) session event)
    → seen ≡ map plain_step (steps report) → reverse turned ≡ turns report
    → is_told_right numbers seen turned lists ≡ whole document report
whole_is document report lists numbers seen turned are right numbers_are seen_are turned_are =
    let stored = stored_up_to (journal_before document).entries (stored_entries report) in
    (λ i. is_told_right (λ session event. numbers_are session event i) (seen_are i) turned (are i))
    ∙ (told_plain stored (steps report) turned (submissions_by_client document report)
    ∙ (told_reversed stored (steps report) turned (submissions_by_client document report)
    ∙ (ap (λ (all : List Turn). is_told_right stored (steps report) all (submissions_by_client document report)) turned_are
    ∙ (sym (told_is (told_by document report) (submissions_by_client document report))
    ∙ sym (ap (λ t. t && is_told_whole (told_by document report) (submissions_by_client document report))
    (reports_are document report ∙ (ap (λ (l : List (List Submission)). are_in_script_order document.clients report.clients && list_all (list_all shows_own) l) (sym are) ∙ right)))))))

pub whole_long : (document : Document) (report : Report) → (length document.clients ≡ length report.clients → ⊥) → whole document report ≡ false
whole_long document report other =
    whole_not document report (submissions_by_client document report) refl
    (and_left (are_in_script_order document.clients report.clients) (list_all (list_all shows_own) (submissions_by_client document report)) (order_not document.clients report.clients other))

-- ---- what is there, and what is not

pub some_of : {A : Type 0} (o : Option A) → is_some o ≡ true → is_none o ≡ false
some_of None is = absurd cc
some_of (Some a) is = refl

pub none_of : {A : Type 0} (o : Option A) → is_some o ≡ false → is_none o ≡ true
none_of None is = refl
none_of (Some a) is = absurd cc
