-- The reports of each client are those of its script, in order: each request with its copies, and
-- each shows its whole script or failed.
use Rattle.std.proofs.Common.{◌≡◌, refl, sym, ap, subst, ◌∙◌, append-nil, append_assoc, Bool, true, false, ℕ, suc, ◌+◌, ◌&&◌, length, List, [], ◌∷◌, ◌++◌, map, Some, None, arith}
use Rattle.std.specs.Prelude.{◌==◌, position, slice_get, option_and_then, flat_map}
use Rattle.std.specs.List.{list_all}
use Rattle.std.proofs.lemmas.Bool.{and_from}
use Rattle.std.proofs.lemmas.List.Folds.{list_all-append}
use Rattle.outage_schedule.specs.declared.document.Client.{Client as Scripted}
use Rattle.outage_schedule.specs.declared.document.Document.{Document}
use Rattle.outage_schedule.specs.declared.document.Request.{Request}
use Rattle.outage_schedule.specs.declared.request.RequestReport.{RequestReport}
use Rattle.run_clauses.specs.meaning.Copies.{Copies, further_copies, copies_of, left_over, is_over, next_of, copies_by_client, is_in_script_order, are_in_script_order, shows_script, show_script, each_copies}
use Rattle.shown_clauses.specs.meaning.Submissions.{Submission, submissions_of}
use Rattle.world_model.specs.meaning.Clients.{Client, Past, reports_of}
use Rattle.invariant_laws.specs.KeptLaws.{FinishesKeepInvariant}
use Rattle.shown_laws.specs.ReportsTold.{ReportsAreOrdered}
use Rattle.shown_laws.specs.Submitted.{submission_of}
use Rattle.shown_laws.specs.Tellings.{FollowsFrom, FinishesTellSteps}
use Rattle.shown_laws.proofs.steps.CoursesOver.{past_shows}
use Rattle.shown_laws.proofs.events.Lookups.{eq_to}
use Rattle.shown_laws.proofs.judged.ReportsTold.{by_number, IsOfRun, told_run, of_run, each_of_run}
use Rattle.shown_laws.proofs.steps.SubmissionsTold.{OneMore, IsMine, IsLater, one_more, is_left, first_follows, later_follows}

-- ALL COPIES --------------------------------------------------------------------------------------

copies_long : (script : List Request) (reports : List RequestReport) → length (copies_of script reports) ≡ length script
copies_long [] reports = refl
copies_long (request ∷ requests) [] = ap suc (copies_long requests [])
copies_long (request ∷ requests) (first ∷ reports) = ap suc (copies_long requests (further_copies request.again first reports).1)

-- where no request is left, all copies of each are there
all_over : (script : List Request) (copies : List Copies) → length copies ≡ length script → option_and_then (slice_get script) (position is_left copies) ≡ None → list_all is_over copies ≡ true
all_over script [] long none = refl
all_over [] (first ∷ others) long none = absurd (let never : ⊥ = omega (arith, long) in never)
all_over (request ∷ script) (first ∷ others) long none =
    by (is_over first) refl (λ left. all_over script others (let less : length others ≡ length script = omega (arith, long) in less) left)
  where
    by : (over : Bool) → is_over first ≡ over → (option_and_then (slice_get script) (position is_left others) ≡ None → list_all is_over others ≡ true) → list_all is_over (first ∷ others) ≡ true
    by true is rest = and_from (is_over first) (list_all is_over others) is (rest (sym (later_follows script request first others is) ∙ none))
    by false is rest = let both : Some request ≡ None = sym (first_follows script request first others is) ∙ none in absurd (let never : ⊥ = cc in never)

-- NONE LEFT OVER ----------------------------------------------------------------------------------

none_over : (script : List Request) → left_over script [] ≡ []
none_over [] = refl
none_over (request ∷ requests) = refl

left_more : (script : List Request) (reports : List RequestReport) (request : Request) (report : RequestReport) → next_of script reports ≡ Some request → left_over script reports ≡ [] → left_over script (reports ++ report ∷ []) ≡ []
left_more [] reports request report follows none = absurd (let never : ⊥ = cc in never)
left_more (other ∷ requests) [] request report follows none = none_over requests
left_more (other ∷ requests) (first ∷ reports) request report follows none =
    by (further_copies other.again first (reports ++ report ∷ [])) (λ next. left_more requests rest request report next none) (one_more other.again first reports report)
  where
    mine : List RequestReport
    mine = (further_copies other.again first reports).0

    rest : List RequestReport
    rest = (further_copies other.again first reports).1

    own : Copies
    own = record { request = other; reports = first ∷ mine }

    by : (more : List RequestReport × List RequestReport) → (next_of requests rest ≡ Some request → left_over requests (rest ++ report ∷ []) ≡ []) → OneMore other.again first mine rest report more → left_over requests more.1 ≡ []
    by _ later (IsMine opens gone) = none_over requests
    by _ later (IsLater closed) = later (sym (later_follows requests other own (copies_of requests rest) closed) ∙ follows)

left_from : (script : List Request) (before : List RequestReport) (past : List Past) → FollowsFrom script before past → left_over script before ≡ [] → left_over script (before ++ reports_of past) ≡ []
left_from script before [] follows none = ap (left_over script) (append-nil before) ∙ none
left_from script before (one ∷ past) follows none =
    ap (left_over script) (sym (append_assoc before (one.report ∷ []) (reports_of past)))
    ∙ left_from script (before ++ one.report ∷ []) past follows.1 (left_more script before one.request one.report follows.0 none)

-- SCRIPTS -----------------------------------------------------------------------------------------

one_ordered : (document : Document) (script : List Request) (past : List Past) → FollowsFrom script [] past → next_of script (reports_of past) ≡ None → is_in_script_order script (reports_of past) ≡ true
one_ordered document script past follows none =
    and_from (list_all is_over (copies_of script (reports_of past))) (length (left_over script (reports_of past)) == 0) (all_over script (copies_of script (reports_of past)) (copies_long script (reports_of past)) none)
    (eq_to (length (left_over script (reports_of past))) 0 (ap length (left_from script [] past follows (none_over script))))

all_ordered : (scripts : List Scripted) (clients : List Client) → length clients ≡ length scripts
    → ((index : ℕ) (own : Client) (one : Scripted) → slice_get clients index ≡ Some own → slice_get scripts index ≡ Some one → is_in_script_order one.requests (reports_of own.past) ≡ true)
    → are_in_script_order scripts (map (λ client. reports_of client.past) clients) ≡ true
all_ordered [] [] long holds = refl
all_ordered [] (own ∷ clients) long holds = absurd (let none : ⊥ = omega (arith, long) in none)
all_ordered (one ∷ scripts) [] long holds = absurd (let none : ⊥ = omega (arith, long) in none)
all_ordered (one ∷ scripts) (own ∷ clients) long holds =
    let less : length clients ≡ length scripts = omega (arith, long) in
    and_from (is_in_script_order one.requests (reports_of own.past)) (are_in_script_order scripts (map (λ client. reports_of client.past) clients)) (holds 0 own one refl refl)
    (all_ordered scripts clients less (λ index other script here there. holds (suc index) other script here there))

-- WHAT IS SHOWN -----------------------------------------------------------------------------------

abbrev shows : Submission → Bool
shows one = shows_script one.request one.copy

copies_show : (request : Request) (reports : List RequestReport) → list_all (shows_script request) reports ≡ list_all shows (submissions_of (record { request = request; reports = reports }))
copies_show request [] = refl
copies_show request (one ∷ reports) = ap (λ (rest : Bool). shows_script request one && rest) (copies_show request reports)

client_shows : (all : List Copies) → list_all show_script all ≡ list_all shows (flat_map submissions_of all)
client_shows [] = refl
client_shows (one ∷ all) =
    ap (λ (b : Bool). b && list_all show_script all) (copies_show one.request one.reports)
    ∙ (ap (λ (b : Bool). list_all shows (submissions_of one) && b) (client_shows all) ∙ sym (list_all-append shows (submissions_of one) (flat_map submissions_of all)))

all_show : (number : ℕ) (all : List (List Copies)) → list_all (list_all show_script) all ≡ by_number (λ n mine. list_all shows mine) number (map (flat_map submissions_of) all)
all_show number [] = refl
all_show number (one ∷ all) =
    ap (λ (b : Bool). b && list_all (list_all show_script) all) (client_shows one)
    ∙ ap (λ (b : Bool). list_all shows (flat_map submissions_of one) && b) (all_show (number + 1) all)

past_submit : (past : List Past) → list_all (λ one. shows_script one.request one.report) past ≡ list_all shows (map submission_of past)
past_submit [] = refl
past_submit (one ∷ past) = ap (λ (b : Bool). shows_script one.request one.report && b) (past_submit past)

-- REPORTS -----------------------------------------------------------------------------------------

pub reports_ordered : FinishesTellSteps → FinishesKeepInvariant → ReportsAreOrdered
reports_ordered tell kept document report seen t server right reported =
    and_from (are_in_script_order document.clients report.clients) (each_copies show_script document report)
    (subst (λ (transcripts : List (List RequestReport)). are_in_script_order document.clients transcripts ≡ true) (sym reported.clients) (all_ordered document.clients t.machine.clients (told_run tell document report seen t server right reported) ordered))
    (all_show 1 (copies_by_client document.clients report.clients)
    ∙ each_of_run tell document report seen t server right reported (λ n mine. list_all shows mine)
    (λ index own one is. sym (past_submit own.past) ∙ past_shows t (kept document reported.run.place report.notes report.served seen t right reported.run.finishing) (suc index) own is.here))
  where
    ordered : (index : ℕ) (own : Client) (one : Scripted) → slice_get t.machine.clients index ≡ Some own → slice_get document.clients index ≡ Some one → is_in_script_order one.requests (reports_of own.past) ≡ true
    ordered index own one here there =
        let is : IsOfRun document t index own one = of_run tell document report seen t server right reported index own one here there in
        one_ordered document one.requests own.past is.follows is.none_left
