-- How far the judge has come in a request, and how that stands to its client.
use Rattle.std.proofs.Common.{◌≡◌, ℕ, ◌+◌, ◌&&◌, ◌||◌, Bool, true, false, not, List, [], ◌∷◌, ◌++◌, length, map, reverse, Option, Some, None, refl, sym, ap, ◌∙◌}
use Rattle.std.specs.Prelude.{IsSome, count_by, unwrap_or, option_and_then}
use Rattle.std.specs.List.{list_all}
use Rattle.std.proofs.lemmas.List.{append_assoc, reverse-append}
use Rattle.svc_values.specs.declared.answer.Answer.{Answer}
use Rattle.svc_values.specs.declared.call.Call.{Call}
use Rattle.svc_values.specs.declared.draw.Draw.{Draw}
use Rattle.svc_values.specs.declared.frame.Up.{Up}
use Rattle.svc_values.specs.declared.frame.Up.TheVariants as up
use Rattle.request_bounds.specs.declared.rule.Why.{Why}
use Rattle.request_bounds.specs.meaning.Rules.{Rules}
use Rattle.call_recorder.specs.declared.recorded.Recorded.{Recorded}
use Rattle.outage_schedule.specs.declared.document.Request.{Request}
use Rattle.outage_schedule.specs.declared.document.ServiceOf.{ServiceOf}
use Rattle.outage_schedule.specs.declared.failure.Failure.{Failure}
use Rattle.outage_schedule.specs.declared.request.RequestReport.{RequestReport}
use Rattle.outage_schedule.specs.declared.request.ShownCall.{ShownCall}
use Rattle.client_model.specs.declared.act.Act.{Act}
use Rattle.client_model.specs.declared.act.Shown.{Shown}
use Rattle.client_model.specs.declared.input.Input.{Input}
use Rattle.client_model.specs.meaning.Terms.{Talk, Phase, Idle, Unbegun, Queued, Seeking, Greeting, Asked, Running, Replaying}
use Rattle.client_model.specs.Conversation.{is_gone_next}
use Rattle.client_model.specs.meaning.Account.{Account}
use Rattle.client_model.specs.Account.{is_uncommitted}
use Rattle.client_model.specs.meaning.Account as account
use Rattle.client_model.specs.Reasons.{rules_of}
use Rattle.run_clauses.specs.meaning.Reports.{shown_call, told_outcome, failure_of}
use Rattle.shown_clauses.specs.meaning.Fronts.{first_item}
use Rattle.shown_clauses.specs.meaning.Steps.{Step}
use Rattle.shown_clauses.specs.meaning.Showings.{shown_answers}
use Rattle.shown_clauses.specs.meaning.Submissions.{Submission}
use Rattle.shown_clauses.specs.meaning.Facts.{Fact, Course, course_of, after_taking, after_step, facts_at, showing_facts, submitted_fact, submits}
use Rattle.shown_clauses.specs.meaning.Causes.{Past, is_wait, last_downs, outcomes_of, says_uncommitted}
use Rattle.shown_clauses.specs.meaning.Caused.{Judged, judged_from, judge_step, Goes, Ends, ending_at, after_ending, is_right}
use Rattle.caused_laws.specs.ServiceTerms.{kind_of}
use Rattle.caused_laws.proofs.Agreeing.{Agrees}
use Rattle.caused_laws.proofs.FactsKnown.{is_off, terms_by}

-- THE JUDGE ---------------------------------------------------------------------------------------

-- A request up to here: its steps and what happened in them, the newest first; how far it has come;
-- the tick of its first step, if there was one.
pub record SoFar : Type 0 where
  pub steps : List Step
  pub facts : List Fact
  pub course : Course
  pub begun : Option ℕ

abbrev pub nothing_yet : Submission → SoFar
nothing_yet submission = record { steps = []; facts = []; course = course_of submission; begun = None }

-- with a step, where it was and where it is
abbrev pub past_of : SoFar → Step → Past
past_of s step = record { steps = step ∷ s.steps; facts = s.facts; before = s.course; begun = unwrap_or s.begun step.tick }

abbrev pub behind_it : SoFar → Step → List Fact → Course → SoFar
behind_it s step facts course = record { steps = step ∷ s.steps; facts = facts; course = course; begun = Some (unwrap_or s.begun step.tick) }

abbrev pub judged_by : Bool → List Submission → SoFar → Option ℕ → Judged
judged_by right to_come s None = judged_from right to_come
judged_by right to_come s (Some begun) = record { to_come = to_come; steps = s.steps; facts = s.facts; course = Some s.course; begun = begun; right = right }

abbrev pub judged_at : Bool → List Submission → SoFar → Judged
judged_at right to_come s = judged_by right to_come s s.begun

-- before its first step nothing happened
abbrev pub IsBegun : Submission → SoFar → Type 0
IsBegun submission s = s.begun ≡ None → s ≡ nothing_yet submission

-- what a step adds
pub record Adds (s : SoFar) (step : Step) (facts : List Fact) (course : Course) : Type 0 where
  pub facts_are : reverse (facts_at s.course step) ++ s.facts ≡ facts
  pub course_is : after_step s.course step ≡ course

module _ (service : ServiceOf) (submission : Submission) (more : List Submission) (right : Bool) (s : SoFar) (step : Step) where
  judges_from : (b : Option ℕ) → s.begun ≡ b → IsBegun submission s
      → judge_step service (judged_by right (submission ∷ more) s b) step
      ≡ after_ending service (judged_by right (submission ∷ more) s b) submission more (record { steps = step ∷ s.steps; facts = s.facts; before = s.course; begun = unwrap_or b step.tick }) step (ending_at service submission (record { steps = step ∷ s.steps; facts = s.facts; before = s.course; begun = unwrap_or b step.tick }) step)
  judges_from None is begun =
      let first : s ≡ nothing_yet submission = begun is in
      ap (λ (t : SoFar). after_ending service (judged_from right (submission ∷ more)) submission more (record { steps = step ∷ t.steps; facts = t.facts; before = t.course; begun = step.tick }) step (ending_at service submission (record { steps = step ∷ t.steps; facts = t.facts; before = t.course; begun = step.tick }) step)) (sym first)
  judges_from (Some b) is begun = refl

  -- the judge goes on
  goes_from : (b : Option ℕ) (facts : List Fact) (course : Course) → Adds s step facts course
      → after_ending service (judged_by right (submission ∷ more) s b) submission more (record { steps = step ∷ s.steps; facts = s.facts; before = s.course; begun = unwrap_or b step.tick }) step Goes
      ≡ record { to_come = submission ∷ more; steps = step ∷ s.steps; facts = facts; course = Some course; begun = unwrap_or b step.tick; right = right }
  goes_from None facts course adds = let f : reverse (facts_at s.course step) ++ s.facts ≡ facts = adds.facts_are in let c : after_step s.course step ≡ course = adds.course_is in cc
  goes_from (Some b) facts course adds = let f : reverse (facts_at s.course step) ++ s.facts ≡ facts = adds.facts_are in let c : after_step s.course step ≡ course = adds.course_is in cc

  pub judge_goes : (facts : List Fact) (course : Course) → IsBegun submission s → Adds s step facts course → ending_at service submission (past_of s step) step ≡ Goes
      → judge_step service (judged_at right (submission ∷ more) s) step ≡ judged_at right (submission ∷ more) (behind_it s step facts course)
  judge_goes facts course begun adds goes =
      judges_from s.begun refl begun
      ∙ ap (after_ending service (judged_at right (submission ∷ more) s) submission more (past_of s step) step) goes
      ∙ goes_from s.begun facts course adds

  and_true : (a b : Bool) → b ≡ true → (a && b) ≡ a
  and_true true b is = is
  and_true false b is = refl

  right_at : (b : Option ℕ) → (judged_by right (submission ∷ more) s b).right ≡ right
  right_at None = refl
  right_at (Some b) = refl

  -- or comes to the end
  pub judge_ends : (failed : Option Failure) → IsBegun submission s → ending_at service submission (past_of s step) step ≡ Ends failed → is_right service submission (step ∷ s.steps) failed ≡ true
      → judge_step service (judged_at right (submission ∷ more) s) step ≡ judged_from right more
  judge_ends failed begun ends is =
      judges_from s.begun refl begun
      ∙ ap (after_ending service (judged_at right (submission ∷ more) s) submission more (past_of s step) step) ends
      ∙ ap (λ b. judged_from b more) (and_true (judged_at right (submission ∷ more) s).right (is_right service submission (step ∷ s.steps) failed) is ∙ right_at s.begun)

-- WHAT A STEP ADDS --------------------------------------------------------------------------------

-- where what it took leads to
pub record Takes (s : SoFar) (step : Step) (facts : List Fact) (course : Course) : Type 0 where
  pub facts_are : reverse (showing_facts s.course (option_and_then (λ one. shown_answers one.item) step.taken)) ++ s.facts ≡ facts
  pub course_is : after_taking s.course step.taken ≡ course

module _ (s : SoFar) (step : Step) (facts : List Fact) (course : Course) (takes : Takes s step facts course) where
  added : (b : Bool) → submits course step ≡ b → reverse (facts_at s.course step) ++ s.facts ≡ reverse (submitted_fact b course (first_item course.unshown) step.tick) ++ facts
  added b is =
      ap (λ (c : Course). reverse (showing_facts s.course (option_and_then (λ one. shown_answers one.item) step.taken) ++ submitted_fact (submits c step) c (first_item c.unshown) step.tick) ++ s.facts) takes.course_is
      ∙ ap (λ (t : Bool). reverse (showing_facts s.course (option_and_then (λ one. shown_answers one.item) step.taken) ++ submitted_fact t course (first_item course.unshown) step.tick) ++ s.facts) is
      ∙ ap (λ l. l ++ s.facts) (reverse-append (showing_facts s.course (option_and_then (λ one. shown_answers one.item) step.taken)) (submitted_fact b course (first_item course.unshown) step.tick))
      ∙ append_assoc (reverse (submitted_fact b course (first_item course.unshown) step.tick)) (reverse (showing_facts s.course (option_and_then (λ one. shown_answers one.item) step.taken))) s.facts
      ∙ ap (λ l. reverse (submitted_fact b course (first_item course.unshown) step.tick) ++ l) takes.facts_are

  or_same : (a : Bool) → (a || false) ≡ a
  or_same true = refl
  or_same false = refl

  or_not : (a : Bool) → (a || not a) ≡ true
  or_not true = refl
  or_not false = refl

  -- nothing was submitted
  pub adds_none : submits course step ≡ false → Adds s step facts course
  adds_none is = record {
    facts_are = added false is;
    course_is = ap (λ (c : Course). record c { submitted = c.submitted || submits c step }) takes.course_is ∙ ap (λ (b : Bool). record course { submitted = b }) (ap (λ b. course.submitted || b) is ∙ or_same course.submitted);
  }

  -- the first call that was not shown is sent, if it was submitted already or not
  pub adds_sent : submits course step ≡ not course.submitted
      → Adds s step (reverse (submitted_fact (not course.submitted) course (first_item course.unshown) step.tick) ++ facts) (record course { submitted = true })
  adds_sent is = record {
    facts_are = added (not course.submitted) is;
    course_is = ap (λ (c : Course). record c { submitted = c.submitted || submits c step }) takes.course_is ∙ ap (λ (b : Bool). record course { submitted = b }) (ap (λ b. course.submitted || b) is ∙ or_not course.submitted);
  }

-- THE CLIENT --------------------------------------------------------------------------------------

-- Once the request began its first call was submitted, and without replay that is a reason.
pub record IsOpen (service : ServiceOf) (why : Option Why) (course : Course) : Type 0 where
  pub submitted : course.index ≡ 0 → course.submitted ≡ true
  pub stands : is_off service.failover ≡ true → IsSome why

-- the last frame was a call, with this mark
pub record SentCall (mark : Bool) (last : Option Up) : Type 0 where
  pub kept : List Draw
  pub one : Call
  pub is : last ≡ Some (up.Call mark kept one)

-- the last frame, where a reply is awaited
abbrev pub IsLast : Phase → Option Up → Type 0
IsLast (Greeting lost) last = last ≡ Some up.Connect
IsLast (Running state) last = SentCall false last
IsLast (Replaying state) last = SentCall true last
IsLast _ last = Unit {0}

-- what is so in each phase
abbrev pub IsAt : ServiceOf → Phase → Option Why → ℕ → SoFar → Type 0
IsAt service Unbegun why tries s = (s.begun ≡ None) × (list_all (λ step. is_wait step.did) s.steps ≡ true) × (s.course.submitted ≡ false) × (tries ≡ 0)
IsAt service (Queued from) why tries s = (s.begun ≡ from) × (list_all (λ step. is_wait step.did) s.steps ≡ true) × (s.course.submitted ≡ false) × (tries ≡ 0)
IsAt service (Seeking None) why tries s = s.course.submitted ≡ false
IsAt service (Seeking (Some lost)) why tries s = IsOpen service why s.course
IsAt service (Greeting None) why tries s = (s.course.submitted ≡ false) × (tries ≡ 0)
IsAt service (Greeting (Some lost)) why tries s = IsOpen service why s.course × (tries ≡ 0)
IsAt service (Asked state) why tries s = IsOpen service why s.course × (tries ≡ 0)
IsAt service (Running state) why tries s = IsOpen service why s.course × (tries ≡ 0)
IsAt service (Replaying state) why tries s = IsOpen service why s.course × (tries ≡ 0) × (s.course.behind + state.verified ≡ length state.track.recorder.calls)
IsAt service _ why tries s = Unit {0}

module _ (service : ServiceOf) (rules : Rules) (told : List Answer → List ℕ) (ruled : rules ≡ rules_of (kind_of service.failover service.consistency)) (request : Request) (copy : RequestReport) where
  -- the client's account says of the steps and what happened in them what the judge knows
  pub record KnowsOf (shown : List Shown) (since : List Recorded) (why : Option Why) (first : Option ℕ) (outcomes : List account.Outcome) (tries : ℕ) (steps : List Step) (facts : List Fact) (course : Course) : Type 0 where
    pub agrees : Agrees service rules told ruled request.calls copy.calls shown since why first facts course
    pub count : count_by says_uncommitted (outcomes_of steps) ≡ count_by is_uncommitted outcomes
    pub downs : last_downs steps ≡ tries

  abbrev pub Knows : Account → List Step → List Fact → Course → Type 0
  Knows a steps facts course = KnowsOf a.shown a.since_purge a.reason a.first a.outcomes a.tries steps facts course

  pub record Stands (a : Account) (phase : Phase) (due : Bool) (s : SoFar) : Type 0 where
    pub knows : Knows a s.steps s.facts s.course
    pub at : IsAt service phase a.reason a.tries s
    pub last : due ≡ false → IsLast phase a.last

  abbrev pub submission : Submission
  submission = record { request = request; copy = copy }

  -- the report of a request that is over
  pub record IsReported (a : Account) (act : Act) : Type 0 where
    pub failed : copy.failed ≡ option_and_then failure_of act.failed
    pub outcomes : copy.outcomes ≡ map told_outcome a.outcomes

  abbrev pub is_over : Phase → Bool
  is_over Idle = true
  is_over _ = false

  -- the judge goes on where the client does, and comes to the end where it does
  pub data Comes (a : Account) (phase : Phase) (due : Bool) (s : SoFar) (step : Step) : Type 0 where
    GoesOn : (facts : List Fact) (course : Course) → is_over phase ≡ false → ending_at service submission (past_of s step) step ≡ Goes → Adds s step facts course → Stands a phase due (behind_it s step facts course) → Comes a phase due s step
    IsOver : (failed : Option Failure) → is_over phase ≡ true → ending_at service submission (past_of s step) step ≡ Ends failed → is_right service submission (step ∷ s.steps) failed ≡ true → Comes a phase due s step

  -- at an input, told of the report
  pub record Foretold (a : Account) (input : Input) (tick : ℕ) (step : Talk × Act) : Type 0 where
    pub rest : List ShownCall
    pub extends : copy.calls ≡ map shown_call (account.after_step (terms_by service rules told) request.calls a (record { input = input; now = tick; act = step.1 })).shown ++ rest
    pub final : is_over step.0.phase ≡ true → IsReported (account.after_step (terms_by service rules told) request.calls a (record { input = input; now = tick; act = step.1 })) step.1

  abbrev pub ComesBy : Account → Input → SoFar → Step → Talk × Act → Type 0
  ComesBy a input s step next =
      Foretold a input step.tick next
      → Comes (account.after_step (terms_by service rules told) request.calls a (record { input = input; now = step.tick; act = next.1 })) next.0.phase (is_gone_next input next.1.hold) s step
