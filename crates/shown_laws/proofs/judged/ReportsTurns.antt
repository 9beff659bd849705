-- What the report of a whole run says of whose turns its sessions served.
use Rattle.std.proofs.Common.{◌≡◌, refl, sym, ap, subst, ◌∙◌, Bool, true, false, ℕ, zero, suc, ◌+◌, ◌<◌, ◌≤◌, length, List, [], ◌∷◌, map, Option, Some, None, IsTrue, arith}
use Rattle.std.specs.Prelude.{◌&&◌, nat_lt, nat_le, flat_map}
use Rattle.std.specs.List.{list_all}
use Rattle.std.specs.Option.{option_map_or}
use Rattle.std.proofs.lemmas.Bool.{and_from}
use Rattle.std.proofs.lemmas.Bool.Decides.{nat_tests}
use Rattle.std.proofs.lemmas.List.{length-map}
use Rattle.std.proofs.lemmas.Option.{slice_get_within}
use Rattle.outage_schedule.specs.declared.document.Client.{Client as Scripted}
use Rattle.outage_schedule.specs.declared.document.Document.{Document}
use Rattle.outage_schedule.specs.declared.report.Report.{Report}
use Rattle.outage_schedule.specs.declared.request.RequestReport.{RequestReport}
use Rattle.run_clauses.specs.meaning.Copies.{copies_by_client}
use Rattle.server_model.specs.Runs.{Server}
use Rattle.server_model.specs.Seen.{Seen}
use Rattle.shown_clauses.specs.meaning.Links.{Acquired, Turn}
use Rattle.shown_clauses.specs.meaning.Parts.{left_of}
use Rattle.shown_clauses.specs.meaning.Steps.{Step as StepTold, steps, steps_of, turns}
use Rattle.shown_clauses.specs.meaning.Submissions.{Submission, submissions_of, submissions_by_client}
use Rattle.shown_clauses.specs.meaning.Turns.{Owned, turns_of, has_request, has_client}
use Rattle.world_model.specs.meaning.Clients.{Client, client_at}
use Rattle.world_model.specs.records.Conversing.{AreThrough}
use Rattle.invariant_laws.specs.KeptLaws.{FinishesKeepInvariant}
use Rattle.world_model.specs.records.Ready.{all_requests_right}
use Rattle.world_model.specs.Reported.{IsReported}
use Rattle.world_model.specs.meaning.Settings.{Setting, setting_of}
use Rattle.world_model.specs.Traced.{Traced}
use Rattle.shown_laws.specs.Submitted.{submission_of}
use Rattle.shown_laws.specs.Tellings.{TellsClient, FinishesTellSteps}
use Rattle.shown_laws.specs.TurnOwners.{IsOwned, AreOwned, NoneOwned, OneOwned, WholeRunsOwnTurns}
use Rattle.shown_laws.specs.TurnReports.{ReportsTurnsHaveClients, are_turns, parts_turn_right, ReportsTurnsAreRight, turns_have_requests, ReportsTurnsHaveRequests}
use Rattle.shown_laws.proofs.steps.BeforeSession.{talks_at}
use Rattle.shown_laws.proofs.judged.CausedRuns.{finishing_setting}
use Rattle.shown_laws.proofs.judged.NoneLeft.{none_left}
use Rattle.shown_laws.proofs.shown.PartsTold.{are_split, whole_told}
use Rattle.shown_laws.proofs.judged.PartTurns.{all_mine, client_turns_right}
use Rattle.shown_laws.proofs.judged.ReportsTold.{by_number, IsOfRun, told, told_run, each_of_run}
use Rattle.shown_laws.proofs.steps.ToldRise.{told_rise}

-- CLIENTS -----------------------------------------------------------------------------------------

copies_long : (scripts : List Scripted) (transcripts : List (List RequestReport)) → length (copies_by_client scripts transcripts) ≡ length scripts
copies_long [] transcripts = refl
copies_long (script ∷ scripts) [] = ap suc (copies_long scripts [])
copies_long (script ∷ scripts) (transcript ∷ transcripts) = ap suc (copies_long scripts transcripts)

submissions_long : (document : Document) (report : Report) → length (submissions_by_client document report) ≡ length document.clients
submissions_long document report = length-map (copies_by_client document.clients report.clients) (flat_map submissions_of) ∙ copies_long document.clients report.clients

-- a client that is there has a number
has_number : (clients : List Client) (number : ℕ) (own : Client) → client_at clients number ≡ Some own → (0 < number) × (number ≤ length clients)
has_number clients zero own here = absurd (let none : ⊥ = cc in none)
has_number clients (suc index) own here =
    let within : index < length clients = slice_get_within clients index own here in
    (omega arith, omega (arith, within))

one_client : (clients : List Client) (many : ℕ) (turn : Turn) → length clients ≡ many → IsOwned clients turn → has_client many turn ≡ true
one_client clients many turn long is =
    let number = has_number clients is.owner.client is.did.request.own is.did.request.here in
    let whose : is.acquired.client ≡ is.owner.client = is.did.whose in
    let some : 0 < is.acquired.client = omega (arith, whose, number.0) in
    let most : is.acquired.client ≤ many = omega (arith, whose, long, number.1) in
    ap (λ (found : Option Acquired). option_map_or (λ (acquired : Acquired). nat_lt 0 acquired.client && nat_le acquired.client many) found false) is.has
    ∙ and_from (nat_lt 0 is.acquired.client) (nat_le is.acquired.client many) (above is.acquired.client some) (within is.acquired.client many most)
  where
    above : (number : ℕ) → 0 < number → nat_lt 0 number ≡ true
    above number less = grind (arith, nat_tests, less)

    within : (number most : ℕ) → number ≤ most → nat_le number most ≡ true
    within number most less = grind (arith, nat_tests, less)

all_clients : (clients : List Client) (many : ℕ) (all : List Turn) → length clients ≡ many → AreOwned clients all → list_all (has_client many) all ≡ true
all_clients clients many _ long NoneOwned = refl
all_clients clients many _ long (OneOwned turn more is rest) = and_from (has_client many turn) (list_all (has_client many) more) (one_client clients many turn long is) (all_clients clients many more long rest)

pub turns_with_clients : FinishesTellSteps → WholeRunsOwnTurns → ReportsTurnsHaveClients
turns_with_clients tell owned document report seen t server right reported =
    all_clients t.machine.clients (length (submissions_by_client document report)) (turns report) (told_run tell document report seen t server right reported ∙ sym (submissions_long document report))
    (owned document report.notes report.served seen t right reported.run)

-- CLIENT BY CLIENT --------------------------------------------------------------------------------

abbrev by_client : (List Owned → List Submission → List StepTold → Bool) → List Turn → List StepTold → ℕ → List Submission → Bool
by_client test all told number mine = test (turns_of number all) mine (steps_of number told)

turns_by : (test : List Owned → List Submission → List StepTold → Bool) (number : ℕ) (all : List Turn) (told : List StepTold) (submissions : List (List Submission)) → are_turns test number all told submissions ≡ by_number (by_client test all told) number submissions
turns_by test number all steps [] = refl
turns_by test number all steps (mine ∷ more) = ap (λ (rest : Bool). test (turns_of number all) mine (steps_of number steps) && rest) (turns_by test (number + 1) all steps more)

module _ (stands : FinishesKeepInvariant) (tell : FinishesTellSteps) (document : Document) (report : Report) (seen : Seen) (t : Traced) (server : Server) (right : IsTrue (all_requests_right document)) (reported : IsReported document report seen t server) (index : ℕ) (own : Client) (one : Scripted)
    (is : IsOfRun document t index own one) where
  tells : TellsClient (setting_of document) (suc index) own (steps_of (suc index) (steps report))
  tells = (told tell document report seen t server right reported).each (suc index) own is.here

  through : AreThrough (setting_of document).terms own.past
  through =
      subst (λ (setting : Setting). AreThrough setting.terms own.past) (finishing_setting document reported.run.place report.notes report.served seen t reported.run.finishing)
      (talks_at t.setting.terms t.machine.clients (suc index) own (stands document reported.run.place report.notes report.served seen t right reported.run.finishing).orderly.script.talks is.here).0

  its_right : WholeRunsOwnTurns → parts_turn_right (turns_of (suc index) (turns report)) (map submission_of own.past) (steps_of (suc index) (steps report)) ≡ true
  its_right owned =
      client_turns_right (setting_of document) (suc index) own (steps_of (suc index) (steps report)) through is.rests (told_rise report.notes report.served (suc index)) tells
      (whole_told (setting_of document) (suc index) own (steps_of (suc index) (steps report)) is.rests tells) (turns_of (suc index) (turns report))
      (all_mine (setting_of document) t.machine.clients (suc index) own is.here is.rests tells.past tells.tells_past (turns report) (owned document report.notes report.served seen t right reported.run))

  its_requests : turns_have_requests (turns_of (suc index) (turns report)) (map submission_of own.past) (steps_of (suc index) (steps report)) ≡ true
  its_requests =
      ap (λ (left : Option StepTold). list_all (has_request left) (turns_of (suc index) (turns report)))
      (ap (left_of (map submission_of own.past)) (whole_told (setting_of document) (suc index) own (steps_of (suc index) (steps report)) is.rests tells)
      ∙ none_left own.past tells.past (are_split (setting_of document) (suc index) 0 own.past tells.past through tells.tells_past))
      ∙ all_true (turns_of (suc index) (turns report))
    where
      all_true : (its : List Owned) → list_all (has_request None) its ≡ true
      all_true [] = refl
      all_true (one ∷ its) = all_true its

pub turns_right_told : FinishesKeepInvariant → FinishesTellSteps → WholeRunsOwnTurns → ReportsTurnsAreRight
turns_right_told stands tell owned document report seen t server right reported =
    turns_by parts_turn_right 1 (turns report) (steps report) (submissions_by_client document report)
    ∙ each_of_run tell document report seen t server right reported (by_client parts_turn_right (turns report) (steps report)) (λ index own one is. its_right stands tell document report seen t server right reported index own one is owned)

pub turns_with_requests : FinishesKeepInvariant → FinishesTellSteps → ReportsTurnsHaveRequests
turns_with_requests stands tell document report seen t server right reported =
    turns_by turns_have_requests 1 (turns report) (steps report) (submissions_by_client document report)
    ∙ each_of_run tell document report seen t server right reported (by_client turns_have_requests (turns report) (steps report)) (λ index own one is. its_requests stands tell document report seen t server right reported index own one is)
