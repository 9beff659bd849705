-- The request that acquired a session is told by its part, which was shown as many calls before
-- that step as the request was before it opened the connection.
use Rattle.std.proofs.Common.{◌≡◌, refl, sym, ap, subst, ◌∙◌, Bool, true, false, ℕ, zero, suc, ◌+◌, ◌<◌, ◌&&◌, ◌||◌, length, List, [], ◌∷◌, map, Some, None, if◌then◌else◌, IsTrue, arith}
use Rattle.std.specs.Prelude.{◌==◌, slice_get, is_some, flat_map}
use Rattle.std.proofs.lemmas.Bool.{and_parts}
use Rattle.std.proofs.lemmas.Option.{slice_get_within}
use Rattle.outage_schedule.specs.declared.document.Client.{Client as Scripted}
use Rattle.outage_schedule.specs.declared.document.Document.{Document}
use Rattle.outage_schedule.specs.declared.report.Report.{Report}
use Rattle.outage_schedule.specs.declared.request.RequestReport.{RequestReport}
use Rattle.run_clauses.specs.meaning.Copies.{copies_by_client}
use Rattle.server_model.specs.Runs.{Server}
use Rattle.server_model.specs.Seen.{Seen}
use Rattle.shown_clauses.specs.meaning.Fronts.{first_of}
use Rattle.shown_clauses.specs.meaning.KeptDraws.{parts_from, is_step_of, shown_before, acquired_by}
use Rattle.shown_clauses.specs.meaning.Links.{Acquired}
use Rattle.shown_clauses.specs.meaning.Parts.{Part, parts_of}
use Rattle.shown_clauses.specs.meaning.Steps.{Step as StepTold, steps, steps_of}
use Rattle.shown_clauses.specs.meaning.Submissions.{Submission, submissions_of, submissions_by_client}
use Rattle.world_model.specs.meaning.Clients.{Step, Client, client_at}
use Rattle.world_model.specs.records.Conversing.{AreThrough, IsThrough}
use Rattle.world_model.specs.meaning.Frames.{Owner}
use Rattle.invariant_laws.specs.KeptLaws.{FinishesKeepInvariant}
use Rattle.world_model.specs.records.Ready.{all_requests_right}
use Rattle.invariant_laws.specs.Replayed.{shown_at, before_opening}
use Rattle.world_model.specs.Reported.{IsReported}
use Rattle.world_model.specs.Traced.{Traced}
use Rattle.client_model.specs.meaning.Terms.{Terms}
use Rattle.shown_laws.specs.AcquiredTold.{is_on, acquired_by as acquired_on}
use Rattle.shown_laws.specs.ByPlace.{RequestSteps, IsRequestOf}
use Rattle.shown_laws.specs.Submitted.{submission_of}
use Rattle.shown_laws.specs.Tellings.{steps_in_tellings, TellsClient, FinishesTellSteps}
use Rattle.shown_laws.specs.TurnOwners.{has_step_at}
use Rattle.shown_laws.proofs.steps.BeforeSession.{talks_at}
use Rattle.shown_laws.proofs.steps.HeldOnce.{held_once}
use Rattle.shown_laws.proofs.shown.HelloOpening.{shown_as_opened}
use Rattle.shown_laws.proofs.events.Lookups.{eq_from, eq_to}
use Rattle.shown_laws.proofs.steps.LoudSteps.{is_loud, request_loud}
use Rattle.shown_laws.proofs.judged.PartFirst.{first_part, parts_segments, not_others, found_from, submissions_at, PartAt, part_at, told_in, rise_in, part_has}
use Rattle.shown_laws.proofs.steps.PartsSplit.{all_told}
use Rattle.shown_laws.proofs.shown.PartsTold.{parts_told, whole_told}
use Rattle.shown_laws.proofs.judged.PartTurns.{Segments}
use Rattle.shown_laws.proofs.judged.ReportsTold.{IsOfRun, of_run, told_run}
use Rattle.shown_laws.proofs.steps.RequestsOver.{IsOver, is_over, through_at}
use Rattle.shown_laws.proofs.shown.ShownBefore.{AtStep, at_step, shown_by_then}
use Rattle.shown_laws.proofs.steps.StepsAmong.{IsAmong, among_met, AnAmong, any_among, one_of_event}
use Rattle.shown_laws.proofs.steps.SubmissionsTold.{past_submitted}
use Rattle.shown_laws.proofs.steps.ToldRise.{Rise, all_rise, told_rise}
use Rattle.shown_laws.proofs.owners.TurnHeard.{HeardBy}

-- A STEP THAT ACQUIRED A SESSION ------------------------------------------------------------------

record Acquires (number : ℕ) (step : StepTold) (acquired : Acquired) : Type 0 where
  on : is_on number step.did ≡ true
  has : is_some step.session ≡ true
  client : step.client ≡ acquired.client
  event : step.event ≡ acquired.event

it_acquires : (number : ℕ) (step : StepTold) (acquired : Acquired) → acquired_on number step ≡ Some acquired → Acquires number step acquired
it_acquires number step acquired = by (is_on number step.did) (is_some step.session) refl refl
  where
    by : (on has : Bool) → is_on number step.did ≡ on → is_some step.session ≡ has → (if on && has then Some (record { client = step.client; event = step.event }) else None) ≡ Some acquired → Acquires number step acquired
    by true true on has is =
        let same : record { client = step.client; event = step.event } ≡ acquired = cc in
        record { on = on; has = has; client = ap (λ (a : Acquired). a.client) same; event = ap (λ (a : Acquired). a.event) same }
    by true false on has is = absurd (let none : ⊥ = cc in none)
    by false has on is_so is = absurd (let none : ⊥ = cc in none)

-- WHERE A REQUEST IS ------------------------------------------------------------------------------

record IsNumbered (clients : List Client) (number : ℕ) (own : Client) : Type 0 where
  index : ℕ
  same : number ≡ suc index
  at : slice_get clients index ≡ Some own

numbered : (clients : List Client) (number : ℕ) (own : Client) → client_at clients number ≡ Some own → IsNumbered clients number own
numbered clients zero own here = absurd (let none : ⊥ = cc in none)
numbered clients (suc index) own here = record { index = index; same = refl; at = here }

record IsThere (scripts : List Scripted) (index : ℕ) : Type 0 where
  one : Scripted
  at : slice_get scripts index ≡ Some one

is_there : (scripts : List Scripted) (index : ℕ) → index < length scripts → IsThere scripts index
is_there [] index below = absurd (let none : ⊥ = omega (arith, below) in none)
is_there (first ∷ scripts) zero below = record { one = first; at = refl }
is_there (first ∷ scripts) (suc index) below = let less : index < length scripts = omega (arith, below) in let later : IsThere scripts index = is_there scripts index less in record { one = later.one; at = later.at }

-- REPORTS -----------------------------------------------------------------------------------------

-- The part that a report tells the request to have, with as many calls shown before its step as
-- before the opening, and all that it was shown.
pub record TellsAcquirer (document : Document) (report : Report) (terms : Terms) (acquired : Acquired) (one : RequestSteps) (before : List Step) : Type 0 where
  pub part : Part
  pub its : acquired_by (parts_from 1 (steps report) (submissions_by_client document report)) acquired ≡ Some part
  pub shown : shown_before part.steps acquired.event ≡ length (shown_at terms one.request before)
  pub all : part.submission.copy.calls ≡ shown_at terms one.request one.steps

module _ (stands : FinishesKeepInvariant) (tell : FinishesTellSteps) (document : Document) (report : Report) (seen : Seen) (t : Traced) (server : Server) (right : IsTrue (all_requests_right document)) (reported : IsReported document report seen t server)
    (owner : Owner) (one : RequestSteps) (is : IsRequestOf t.machine.clients owner one) (number : ℕ) (acquired : Acquired) (whose : acquired.client ≡ owner.client) (did : has_step_at acquired.event one.steps ≡ true)
    (heard : HeardBy number acquired (steps report)) (before : List Step) (opened : before_opening number [] one.steps ≡ Some before) where
  own : Client
  own = is.own

  at : IsNumbered t.machine.clients owner.client is.own
  at = numbered t.machine.clients owner.client is.own is.here

  abbrev client : ℕ
  client = suc at.index

  here : client_at t.machine.clients (suc at.index) ≡ Some is.own
  here = at.at

  script : IsThere document.clients at.index
  script =
      let within : at.index < length t.machine.clients = slice_get_within t.machine.clients at.index is.own at.at in
      let long : length t.machine.clients ≡ length document.clients = told_run tell document report seen t server right reported in
      let less : at.index < length document.clients = omega (arith, within, long) in
      is_there document.clients at.index less

  of : IsOfRun document t at.index is.own script.one
  of = of_run tell document report seen t server right reported at.index is.own script.one at.at script.at

  tells : TellsClient t.setting (suc at.index) is.own (steps_of (suc at.index) (steps report))
  tells = (tell document reported.run.place report.notes report.served seen t right reported.run.finishing).each (suc at.index) is.own here

  through : AreThrough t.setting.terms is.own.past
  through = (talks_at t.setting.terms t.machine.clients (suc at.index) is.own (stands document reported.run.place report.notes report.served seen t right reported.run.finishing).orderly.script.talks here).0

  abbrev mine : List StepTold
  mine = steps_of (suc at.index) (steps report)

  abbrev its_parts : List Part
  its_parts = parts_of (map submission_of is.own.past) (steps_of (suc at.index) (steps report))

  whole : steps_of (suc at.index) (steps report) ≡ all_told tells.past
  whole = whole_told t.setting (suc at.index) is.own (steps_of (suc at.index) (steps report)) of.rests tells

  over : IsOver is.own.past owner.place one
  over = is_over is.own owner.place one of.rests is.at

  same_steps : over.over.steps ≡ one.steps
  same_steps = ap (λ (s : RequestSteps). s.steps) over.same

  same_request : over.over.request ≡ one.request
  same_request = ap (λ (s : RequestSteps). s.request) over.same

  its : PartAt t.setting (suc at.index) tells.past its_parts owner.place over.over
  its = part_at t.setting (suc at.index) 0 is.own.past tells.past its_parts owner.place over.over tells.tells_past (parts_told t.setting (suc at.index) is.own (steps_of (suc at.index) (steps report)) through of.rests tells) over.at

  its_through : IsThrough t.setting.terms over.over
  its_through = through_at t.setting.terms is.own.past owner.place over.over through over.at

  -- the step that acquired the session
  step : StepTold
  step = heard.step

  acquires : Acquires number heard.step acquired
  acquires = it_acquires number heard.step acquired heard.by

  its_client : heard.step.client ≡ suc at.index
  its_client = acquires.client ∙ (whose ∙ at.same)

  among_mine : IsAmong heard.step (steps_of (suc at.index) (steps report))
  among_mine = among_met (λ (s : StepTold). s.client == suc at.index) heard.step (steps report) heard.among (eq_to heard.step.client (suc at.index) its_client)

  rise : Rise (steps_of (suc at.index) (steps report))
  rise = told_rise report.notes report.served (suc at.index)

  loud : AnAmong (is_loud acquired.event) (steps_in_tellings its.tellings)
  loud =
      any_among (is_loud acquired.event) (steps_in_tellings its.tellings)
      (request_loud t.setting (suc at.index) its.number over.over.request its.tellings over.over.steps acquired.event its.tells (ap (has_step_at acquired.event) same_steps ∙ did))

  one_step : loud.step ≡ heard.step
  one_step =
      one_of_event loud.step heard.step (steps_of (suc at.index) (steps report)) rise (subst (IsAmong loud.step) (sym whole) (told_in loud.step tells.past owner.place its.tellings its.told_at loud.among)) among_mine
      (eq_from loud.step.event acquired.event (and_parts (loud.step.event == acquired.event) (is_some loud.step.taken || is_some loud.step.session) loud.met).0 ∙ sym acquires.event)

  among : IsAmong heard.step (steps_in_tellings its.tellings)
  among = subst (λ (s : StepTold). IsAmong s (steps_in_tellings its.tellings)) one_step loud.among

  place : AtStep t.setting (suc at.index) its.number over.over.request its.tellings over.over.steps heard.step
  place = at_step t.setting (suc at.index) its.number over.over.request its.tellings over.over.steps heard.step its.tells among

  has_none : heard.step.session ≡ None → ⊥
  has_none none = let no : is_some heard.step.session ≡ false = ap is_some none in let yes : is_some heard.step.session ≡ true = acquires.has in let never : ⊥ = cc in never

  -- its part
  first : first_of (is_step_of heard.step.event) its_parts ≡ Some its.part
  first =
      subst (λ (parts : List Part). first_of (is_step_of heard.step.event) parts ≡ Some its.part) (sym its.all)
      (first_part heard.step.event its.front its.part its.back (steps_of (suc at.index) (steps report))
      (subst (λ (parts : List Part). Segments parts (steps_of (suc at.index) (steps report))) its.all (parts_segments (map submission_of is.own.past) (steps_of (suc at.index) (steps report)))) rise
      (part_has heard.step (steps_in_tellings its.tellings) its.part its.is among has_none))

  submitted : slice_get (submissions_by_client document report) at.index ≡ Some (map submission_of is.own.past)
  submitted =
      ap (λ (transcripts : List (List RequestReport)). slice_get (map (flat_map submissions_of) (copies_by_client document.clients transcripts)) at.index) reported.clients
      ∙ (submissions_at document.clients t.machine.clients at.index is.own script.one at.at script.at ∙ ap Some (past_submitted script.one.requests is.own.past of.follows))

  found : first_of (is_step_of heard.step.event) (parts_from 1 (steps report) (submissions_by_client document report)) ≡ Some its.part
  found =
      let counted : suc at.index ≡ 1 + at.index = omega arith in
      found_from heard.step.event (steps report) its.part 1 (submissions_by_client document report) at.index (map submission_of is.own.past) submitted
      (λ other differ any. not_others (steps report) heard.step other (all_rise report.notes report.served) heard.among (λ same. differ (same ∙ (its_client ∙ counted))) any)
      (ap (λ (n : ℕ). first_of (is_step_of heard.step.event) (parts_of (map submission_of is.own.past) (steps_of n (steps report)))) (sym counted) ∙ first)

  pub acquirer_told : TellsAcquirer document report t.setting.terms acquired one before
  acquirer_told = record {
    part = its.part;
    its = ap (λ (event : ℕ). first_of (is_step_of event) (parts_from 1 (steps report) (submissions_by_client document report))) (sym acquires.event) ∙ found;
    shown =
        ap (shown_before its.part.steps) (sym acquires.event)
        ∙ (shown_by_then t.setting (suc at.index) its.number over.over.request its.tellings over.over.steps heard.step (rise_in tells.past owner.place its.tellings (subst Rise whole rise) its.told_at) place its.part its.is
        ∙ (ap length
        (shown_as_opened t.setting (suc at.index) its.number over.over.request its.tellings over.over.steps heard.step place
        (held_once t.setting (suc at.index) its.number over.over.request its.tellings over.over.steps its.tells its_through.converses.may) number acquires.on acquires.has before
        (ap (before_opening number []) same_steps ∙ opened))
        ∙ ap (λ request. length (shown_at t.setting.terms request before)) same_request));
    all =
        ap (λ (s : Submission). s.copy.calls) its.submission
        ∙ (ap (λ (copy : RequestReport). copy.calls) (sym its_through.reported) ∙ (λ i. shown_at t.setting.terms (same_request i) (same_steps i)));
  }
