-- What holds of the parts of each client in the finish of a run holds of its report.
use Rattle.std.proofs.Common.{◌≡◌, refl, sym, ap, subst, ◌∙◌, add-zero, Bool, true, ℕ, suc, ◌+◌, length, List, [], ◌∷◌, map, Some, None, IsTrue, arith}
use Rattle.std.specs.Prelude.{◌&&◌, slice_get, flat_map}
use Rattle.std.specs.List.{list_all}
use Rattle.std.proofs.lemmas.Bool.{and_from}
use Rattle.outage_schedule.specs.declared.document.Client.{Client as Scripted}
use Rattle.outage_schedule.specs.declared.document.Document.{Document}
use Rattle.outage_schedule.specs.declared.document.Request.{Request}
use Rattle.outage_schedule.specs.declared.request.RequestReport.{RequestReport}
use Rattle.outage_schedule.specs.declared.report.Report.{Report}
use Rattle.run_clauses.specs.meaning.Copies.{copies_by_client, next_of}
use Rattle.server_model.specs.Runs.{Server}
use Rattle.server_model.specs.Seen.{Seen}
use Rattle.shown_clauses.specs.meaning.Parts.{Part, parts_of}
use Rattle.shown_clauses.specs.Showings.{has_its_outcomes}
use Rattle.shown_clauses.specs.meaning.Steps.{Step as StepTold, steps, steps_of}
use Rattle.shown_clauses.specs.meaning.Submissions.{Submission, submissions_of, submissions_by_client}
use Rattle.shown_clauses.specs.Whole.{have_their_outcomes}
use Rattle.world_model.specs.meaning.Clients.{Client, client_at, reports_of}
use Rattle.world_model.specs.Reached.{IsRun}
use Rattle.world_model.specs.records.Ready.{all_requests_right}
use Rattle.world_model.specs.Reported.{IsReported}
use Rattle.world_model.specs.meaning.Settings.{Setting, setting_of}
use Rattle.world_model.specs.Traced.{Traced}
use Rattle.shown_laws.specs.PartsTold.{HoldsOfParts, RepliesAreTaken, OutcomesAreTaken}
use Rattle.shown_laws.specs.ReportsTold.{HoldsOfReports, are_parts, of_parts, ReportsListOutcomes, ReportsTakeReplies}
use Rattle.shown_laws.specs.Submitted.{submission_of}
use Rattle.shown_laws.specs.Tellings.{FollowsFrom, TellsClients, FinishesTellSteps}
use Rattle.shown_laws.proofs.judged.CausedRuns.{all_finished, one_finished, get_script, many_scripts, finishing_setting}
use Rattle.shown_laws.proofs.steps.SubmissionsTold.{submissions_in, past_submitted}

-- CLIENT BY CLIENT --------------------------------------------------------------------------------

-- a test of the submissions of each client, by its number
abbrev pub by_number : (ℕ → List Submission → Bool) → ℕ → List (List Submission) → Bool
by_number test number [] = true
by_number test number (submissions ∷ more) = test number submissions && by_number test (number + 1) more

each_client : (test : ℕ → List Submission → Bool) (scripts : List Scripted) (clients : List Client) (number : ℕ) → length clients ≡ length scripts
    → ((index : ℕ) (own : Client) (one : Scripted) → slice_get clients index ≡ Some own → slice_get scripts index ≡ Some one → test (number + index) (submissions_in one.requests (reports_of own.past)) ≡ true)
    → by_number test number (map (flat_map submissions_of) (copies_by_client scripts (map (λ client. reports_of client.past) clients))) ≡ true
each_client test [] clients number long holds = refl
each_client test (one ∷ scripts) [] number long holds = absurd (let none : ⊥ = omega (arith, long) in none)
each_client test (one ∷ scripts) (own ∷ clients) number long holds =
    let less : length clients ≡ length scripts = omega (arith, long) in
    and_from (test number (submissions_in one.requests (reports_of own.past))) (by_number test (number + 1) (map (flat_map submissions_of) (copies_by_client scripts (map (λ client. reports_of client.past) clients))))
    (subst (λ (n : ℕ). test n (submissions_in one.requests (reports_of own.past)) ≡ true) (add-zero number) (holds 0 own one refl refl))
    (each_client test scripts clients (number + 1) less
    (λ index other script here there.
    let same : number + suc index ≡ (number + 1) + index = omega arith in
    subst (λ (n : ℕ). test n (submissions_in script.requests (reports_of other.past)) ≡ true) same (holds (suc index) other script here there)))

-- the tests of its parts are such
pub parts_by : (test : Part → Bool) (number : ℕ) (all : List StepTold) (submissions : List (List Submission)) → are_parts test number all submissions ≡ by_number (λ n mine. list_all test (parts_of mine (steps_of n all))) number submissions
parts_by test number all [] = refl
parts_by test number all (mine ∷ more) = ap (λ (rest : Bool). list_all test (parts_of mine (steps_of number all)) && rest) (parts_by test (number + 1) all more)

outcomes_by : (number : ℕ) (all : List StepTold) (submissions : List (List Submission)) → have_their_outcomes number all submissions ≡ are_parts has_its_outcomes number all submissions
outcomes_by number all [] = refl
outcomes_by number all (mine ∷ more) = ap (λ (rest : Bool). list_all has_its_outcomes (parts_of mine (steps_of number all)) && rest) (outcomes_by (number + 1) all more)

-- REPORTS -----------------------------------------------------------------------------------------

-- a client of a whole run, and its script
pub record IsOfRun (document : Document) (t : Traced) (index : ℕ) (own : Client) (one : Scripted) : Type 0 where
  pub here : client_at t.machine.clients (suc index) ≡ Some own
  pub there : slice_get document.clients index ≡ Some one
  pub rests : own.now ≡ None
  pub follows : FollowsFrom one.requests [] own.past
  pub none_left : next_of one.requests (reports_of own.past) ≡ None

module _ (tell : FinishesTellSteps) (document : Document) (report : Report) (seen : Seen) (t : Traced) (server : Server) (right : IsTrue (all_requests_right document)) (reported : IsReported document report seen t server) where
  pub run : IsRun document report.notes report.served seen t
  run = reported.run

  pub told : TellsClients (setting_of document) t.machine.clients (steps report)
  told = subst (λ (setting : Setting). TellsClients setting t.machine.clients (steps report)) (finishing_setting document run.place report.notes report.served seen t run.finishing) (tell document run.place report.notes report.served seen t right run.finishing)

  pub told_run : length t.machine.clients ≡ length document.clients
  told_run = told.many ∙ many_scripts document.clients

  pub of_run : (index : ℕ) (own : Client) (one : Scripted) → slice_get t.machine.clients index ≡ Some own → slice_get document.clients index ≡ Some one → IsOfRun document t index own one
  of_run index own one here there =
      let script = get_script document.clients index one there in
      let scripted = (told.each (suc index) own here).scripted in
      let over = one_finished t.machine.clients index own (all_finished t.machine run.place run.over) here in
      record {
        here = here;
        there = there;
        rests = over.0;
        follows = subst (λ (made : List Request). FollowsFrom made [] own.past) script scripted.past;
        none_left = sym (ap (λ (made : List Request). next_of made (reports_of own.past)) script) ∙ (sym scripted.next ∙ over.1);
      }

  -- what holds of each client of the run, by its number
  pub each_of_run : (test : ℕ → List Submission → Bool) → ((index : ℕ) (own : Client) (one : Scripted) → IsOfRun document t index own one → test (suc index) (map submission_of own.past) ≡ true) → by_number test 1 (submissions_by_client document report) ≡ true
  each_of_run test holds =
      subst (λ (transcripts : List (List RequestReport)). by_number test 1 (map (flat_map submissions_of) (copies_by_client document.clients transcripts)) ≡ true) (sym reported.clients)
      (each_client test document.clients t.machine.clients 1 told_run each)
    where
      each : (index : ℕ) (own : Client) (one : Scripted) → slice_get t.machine.clients index ≡ Some own → slice_get document.clients index ≡ Some one → test (1 + index) (submissions_in one.requests (reports_of own.past)) ≡ true
      each index own one here there =
          let number : 1 + index ≡ suc index = omega arith in
          let is : IsOfRun document t index own one = of_run index own one here there in
          subst (λ (n : ℕ). test n (submissions_in one.requests (reports_of own.past)) ≡ true) (sym number)
          (subst (λ (mine : List Submission). test (suc index) mine ≡ true) (sym (past_submitted one.requests own.past is.follows)) (holds index own one is))

-- What holds of the parts of each client that is at no request holds of the parts of each report.
pub reports_hold : FinishesTellSteps → (test : Part → Bool) → HoldsOfParts test → HoldsOfReports (of_parts test)
reports_hold tell test holds document report seen t server right reported =
    parts_by test 1 (steps report) (submissions_by_client document report)
    ∙ each_of_run tell document report seen t server right reported (λ n mine. list_all test (parts_of mine (steps_of n (steps report))))
    (λ index own one is. holds document reported.run.place report.notes report.served seen t (suc index) own right reported.run.finishing is.here is.rests)

pub outcomes_listed : FinishesTellSteps → OutcomesAreTaken → ReportsListOutcomes
outcomes_listed tell holds document report seen t server right reported =
    outcomes_by 1 (steps report) (submissions_by_client document report) ∙ reports_hold tell has_its_outcomes holds document report seen t server right reported

pub replies_listed : RepliesAreTaken → ReportsTakeReplies
replies_listed holds document report seen t server right reported = holds document reported.run.place report.notes report.served seen t right reported.run.finishing
