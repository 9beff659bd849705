-- A client that goes on stands for the machine's.
use Rattle.std.proofs.Common.{◌≡◌, ℕ, Bool, false, List, [], ◌∷◌, ◌++◌, Option, Some, None, refl, sym, ap, ap₂, subst, ◌∙◌}
use Rattle.std.proofs.lemmas.List.{map-append}
use Rattle.request_bounds.specs.meaning.Rules.{Rules}
use Rattle.outage_schedule.specs.declared.document.Request.{Request}
use Rattle.outage_schedule.specs.declared.request.RequestReport.{RequestReport}
use Rattle.client_model.specs.declared.act.Act.{Act}
use Rattle.client_model.specs.declared.act.Hold.{Hold}
use Rattle.client_model.specs.declared.act.Hold.TheVariants.{Keep, GiveBack, Drop}
use Rattle.client_model.specs.declared.input.Input.{Input}
use Rattle.client_model.specs.meaning.Conversation.{Done, talk_at}
use Rattle.client_model.specs.Conversation.{is_gone_next}
use Rattle.client_model.specs.meaning.Talk.{talk_step}
use Rattle.client_model.specs.meaning.Terms.{Terms, Talk, Idle}
use Rattle.driver_core.specs.Driving.{Driving, terms_of, ArePast}
use Rattle.transcript_core.specs.Drafts.{Draft, IsDraft, done_so}
use Rattle.transcript_core.specs.Following.{IsNext}
use Rattle.world_model.specs.meaning.Clients.{Doing, Step, Past, Client, reports_of, resting, past_of, script_at, step_at, heard, after_hold}
use Rattle.run_clauses.specs.meaning.Reports.{report_of}
use Rattle.world_model.specs.meaning.Settings.{Setting}
use Rattle.world_core.specs.Coursing.{Held, terms_in, done_of, IsNow, IsCourse, IsBeside, IsClient, IsSettled, Closes, Hears}
use Rattle.world_core.specs.declared.client.Course.{Course}
use Rattle.world_core.proofs.steps.Resting.{is_kept, step_rests, over_not_gone}

reports_more : (past : List Past) (one : Past) → reports_of (past ++ one ∷ []) ≡ reports_of past ++ one.report ∷ []
reports_more past one = map-append (λ (p : Past). p.report) past (one ∷ [])

module _ (R : Type 0) (rules : R → Rules) (setting : Setting) (number tick : ℕ) where
  -- the request is over, and was reported so
  pub finished : (before after : Held R) (client : Client) (doing : Doing) (script : List Request) (report : RequestReport) → Closes R script report before after → script ≡ script_at setting number → before.course ≡ None → before.driver.talk.phase ≡ Idle
      → report ≡ report_of setting.terms doing.request (done_of doing) → IsBeside R rules setting number tick false before client
      → IsClient R rules setting number tick false after (resting (script_at setting number) (client.past ++ past_of setting.terms doing ∷ []))
  finished before after client doing script report closes same none idle told is =
      let more : reports_of client.past ++ report ∷ [] ≡ reports_of (client.past ++ past_of setting.terms doing ∷ []) = ap (λ (r : RequestReport). reports_of client.past ++ r ∷ []) told ∙ sym (reports_more client.past (past_of setting.terms doing)) in
      let follows : IsNext script (reports_of client.past ++ report ∷ []) after.next = closes.next (reports_of client.past) (subst (λ (l : List Request). IsNext l (reports_of client.past) before.next) (sym same) is.following) in
      record {
        beside = record {
          terms = ap (λ (d : Driving R). terms_of (rules d.rule) d.limits d.recorded) closes.driver ∙ is.terms;
          past = closes.past ∙ ap (λ (l : List RequestReport). l ++ report ∷ []) is.past ∙ more;
          following = subst (λ (l : List Request). IsNext l (reports_of (client.past ++ past_of setting.terms doing ∷ [])) after.next) same (subst (λ (l : List RequestReport). IsNext script l after.next) more follows);
          next = refl;
          ticks = subst (λ (d : Driving R). ArePast d.talk tick) (sym closes.driver) is.ticks;
          gone = ap (λ (d : Driving R). d.gone_next) closes.driver ∙ is.gone;
        };
        now = subst (λ (course : Option Course). IsNow setting.terms after.driver.talk course None) (sym (closes.course ∙ none)) (ap (λ (d : Driving R). d.talk.phase) closes.driver ∙ idle);
      }

  -- the request goes on
  pub goes_on : (before : Held R) (is_lost : Bool) (client : Client) (course : Course) (doing : Doing) → IsCourse setting.terms before.driver.talk course doing → IsBeside R rules setting number tick is_lost before client
      → IsClient R rules setting number tick is_lost (record before { course = Some course }) (record client { now = Some doing })
  goes_on before is_lost client course doing are is = record {
    beside = record { terms = is.terms; past = is.past; following = is.following; next = is.next; ticks = is.ticks; gone = is.gone };
    now = are;
  }

  -- the driver took a step
  pub driven : (before : Held R) (is_lost goes : Bool) (client : Client) (talk : Talk) → ArePast talk tick → IsBeside R rules setting number tick is_lost before client
      → IsBeside R rules setting number tick goes (record before { driver = record before.driver { talk = talk; gone_next = goes }; course = None }) client
  driven before is_lost goes client talk past is = record { terms = is.terms; past = is.past; following = is.following; next = is.next; ticks = past; gone = refl }

  -- it is over, whatever becomes of its connection
  pub over_with : (hold : Hold) (before after : Held R) (is_lost : Bool) (client : Client) (doing : Doing) → is_kept hold ≡ false → IsSettled before.driver.talk is_lost hold → IsBeside R rules setting number tick is_lost before client
      → (before.driver.talk.phase ≡ Idle → IsBeside R rules setting number tick false before client → IsClient R rules setting number tick false after (resting (script_at setting number) (client.past ++ past_of setting.terms doing ∷ [])))
      → IsClient R rules setting number tick is_lost after (after_hold setting number client doing hold)
  over_with Keep before after is_lost client doing over settles is ends = absurd (let none : ⊥ = cc in none)
  over_with GiveBack before after is_lost client doing over settles is ends =
      subst (λ (b : Bool). IsClient R rules setting number tick b after (resting (script_at setting number) (client.past ++ past_of setting.terms doing ∷ []))) (sym settles.1)
      (ends settles.0 (subst (λ (b : Bool). IsBeside R rules setting number tick b before client) settles.1 is))
  over_with Drop before after is_lost client doing over settles is ends =
      subst (λ (b : Bool). IsClient R rules setting number tick b after (resting (script_at setting number) (client.past ++ past_of setting.terms doing ∷ []))) (sym settles.1)
      (ends settles.0 (subst (λ (b : Bool). IsBeside R rules setting number tick b before client) settles.1 is))

  pub kept_with : (hold : Hold) (before after : Held R) (is_lost : Bool) (client : Client) (course : Course) (doing : Doing) → hold ≡ Keep → after ≡ record before { course = Some course } → IsCourse setting.terms before.driver.talk course doing
      → IsBeside R rules setting number tick is_lost before client → IsClient R rules setting number tick is_lost after (after_hold setting number client doing hold)
  kept_with hold before after is_lost client course doing keeps same are is =
      subst (λ (h : Hold). IsClient R rules setting number tick is_lost after (after_hold setting number client doing h)) (sym keeps)
      (subst (λ (a : Held R). IsClient R rules setting number tick is_lost a (record client { now = Some doing })) (sym same) (goes_on before is_lost client course doing are is))

-- what a step leaves is settled
pub settled_so : (terms : Terms) (talk : Talk) (input : Input) (now : ℕ) (hold : Hold) → hold ≡ (talk_step terms talk input now).1.hold → IsSettled (talk_step terms talk input now).0 (is_gone_next input hold) hold
settled_so terms talk input now Keep same = tt
settled_so terms talk input now GiveBack same = (step_rests terms talk input now (ap is_kept (sym same)), over_not_gone input GiveBack refl)
settled_so terms talk input now Drop same = (step_rests terms talk input now (ap is_kept (sym same)), over_not_gone input Drop refl)

-- the request in course is noted
pub course_of : (terms : Terms) (talk : Talk) (course : Option Course) (found : Course) (now : Option Doing) (doing : Doing) → course ≡ Some found → now ≡ Some doing → IsNow terms talk course now → IsCourse terms talk found doing
course_of terms talk course found now doing there is stands = subst (λ (d : Option Doing). IsNow terms talk (Some found) d) is (subst (λ (o : Option Course). IsNow terms talk o now) there stands)

pub none_of : {A : Type 0} (terms : Terms) (talk : Talk) (course : Option Course) (now : Option Doing) (doing : Doing) → course ≡ None → now ≡ Some doing → IsNow terms talk course now → A
none_of terms talk course now doing none is stands = absurd (subst (λ (d : Option Doing). IsNow terms talk None d) is (subst (λ (o : Option Course). IsNow terms talk o now) none stands))

pub course_heard : (terms : Terms) (event tick : ℕ) (doing : Doing) (input : Input) (draft : Draft) (connection : Option ℕ) → connection ≡ doing.connection
    → IsDraft terms doing.request (done_of doing ++ (step_at terms event tick doing input).done ∷ []) draft → IsCourse terms (talk_at terms doing.talk (input, tick)) (record { draft = draft; connection = connection }) (heard terms event tick doing input)
course_heard terms event tick doing input draft connection same is = record {
  talk = refl;
  connection = same;
  draft = subst (λ (steps : List Done). IsDraft terms doing.request steps draft) (sym (map-append (λ (step : Step). step.done) doing.steps (step_at terms event tick doing input ∷ []))) is;
}

-- THE STEP AS A WHOLE -----------------------------------------------------------------------------

module _ (R : Type 0) (rules : R → Rules) where
  abbrev driven_by : Held R → Input → ℕ → Hold → Held R
  driven_by before input tick hold = record before { driver = record before.driver { talk = (talk_step (terms_in R rules before) before.driver.talk input tick).0; gone_next = is_gone_next input hold } }

  -- the calls in turn: the driver's step, the course taken out, the step noted, and what follows
  pub record Turns (setting : Setting) (number event tick : ℕ) (before between after : Held R) (client : Client) (doing : Doing) (input : Input) (act : Act) (course : Course) (draft : Draft) : Type 0 where
    pub acts : act ≡ (talk_step (terms_in R rules before) before.driver.talk input tick).1
    pub drives : between ≡ driven_by before input tick act.hold
    pub ticks : ArePast between.driver.talk tick
    pub there : between.course ≡ Some course
    pub notes : (hold : Hold) → IsDraft setting.terms doing.request (done_of doing) course.draft → IsDraft setting.terms doing.request (done_of doing ++ done_so input tick act.send act.shown act.failed hold ∷ []) draft
    pub settles : (is_lost : Bool) (next : Doing) → IsSettled between.driver.talk is_lost act.hold → IsCourse setting.terms between.driver.talk (record { draft = draft; connection = course.connection }) next
        → IsBeside R rules setting number tick is_lost (record between { course = None }) client → IsClient R rules setting number tick is_lost after (after_hold setting number client next act.hold)

  module _ (setting : Setting) (number event tick : ℕ) (before between after : Held R) (client : Client) (doing : Doing) (input : Input) (act : Act) (course : Course) (draft : Draft) (turns : Turns setting number event tick before between after client doing input act course draft) (is_lost : Bool) (now : client.now ≡ Some doing) (is : IsClient R rules setting number tick is_lost before client) where
    is_course : IsCourse setting.terms before.driver.talk course doing
    is_course = course_of setting.terms before.driver.talk before.course course client.now doing (sym (ap (λ (h : Held R). h.course) turns.drives) ∙ turns.there) now is.now

    same_step : talk_step (terms_in R rules before) before.driver.talk input tick ≡ talk_step setting.terms doing.talk input tick
    same_step = ap₂ (λ (terms : Terms) (talk : Talk). talk_step terms talk input tick) is.beside.terms is_course.talk

    same_act : act ≡ (step_at setting.terms event tick doing input).done.act
    same_act = turns.acts ∙ ap (λ s. s.1) same_step

    same_talk : between.driver.talk ≡ talk_at setting.terms doing.talk (input, tick)
    same_talk = ap (λ (h : Held R). h.driver.talk) turns.drives ∙ ap (λ s. s.0) same_step

    is_draft : IsDraft setting.terms doing.request (done_of doing ++ (step_at setting.terms event tick doing input).done ∷ []) draft
    is_draft = subst (λ (a : Act). IsDraft setting.terms doing.request (done_of doing ++ (record { input = input; now = tick; act = a }) ∷ []) draft) same_act (turns.notes act.hold is_course.draft)

    is_settled : IsSettled between.driver.talk (is_gone_next input act.hold) act.hold
    is_settled =
        subst (λ (t : Talk). IsSettled t (is_gone_next input act.hold) act.hold) (sym (ap (λ (h : Held R). h.driver.talk) turns.drives))
        (settled_so (terms_in R rules before) before.driver.talk input tick act.hold (ap (λ (a : Act). a.hold) turns.acts))

    is_beside : IsBeside R rules setting number tick (is_gone_next input act.hold) (record between { course = None }) client
    is_beside =
        subst (λ (h : Held R). IsBeside R rules setting number tick (is_gone_next input act.hold) (record h { course = None }) client) (sym turns.drives)
        (driven R rules setting number tick before is_lost (is_gone_next input act.hold) client (talk_step (terms_in R rules before) before.driver.talk input tick).0 (subst (λ (h : Held R). ArePast h.driver.talk tick) turns.drives turns.ticks) is.beside)

    pub turns_so : Hears R rules setting number event tick client doing input act.send act.hold after
    turns_so = record {
      send = ap (λ (a : Act). a.send) same_act;
      hold = ap (λ (a : Act). a.hold) same_act;
      stands = turns.settles (is_gone_next input act.hold) (heard setting.terms event tick doing input) is_settled
          (subst (λ (t : Talk). IsCourse setting.terms t (record { draft = draft; connection = course.connection }) (heard setting.terms event tick doing input)) (sym same_talk) (course_heard setting.terms event tick doing input draft course.connection is_course.connection is_draft))
          is_beside;
    }
