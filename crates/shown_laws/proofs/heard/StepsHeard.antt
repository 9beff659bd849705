-- Each step of a request is one of a conversation, as the judge of causes reads it.
use Rattle.std.proofs.Common.{◌≡◌, refl, sym, ap, subst, ◌∙◌, Bool, true, false, ℕ, ◌+◌, length, List, [], ◌∷◌, ◌++◌, Option, Some, None}
use Rattle.std.specs.Prelude.{reverse}
use Rattle.std.specs.List.{list_any}
use Rattle.svc_values.specs.declared.frame.Down.{Down}
use Rattle.client_model.specs.declared.act.Act.{Act}
use Rattle.client_model.specs.declared.act.Hold.{Hold}
use Rattle.client_model.specs.declared.act.Hold.TheVariants as hold
use Rattle.client_model.specs.declared.input.Input.{Input}
use Rattle.client_model.specs.declared.input.Input.TheVariants.{Start, Waiting, Lent, Opened, TryFailed, Took, Gone}
use Rattle.client_model.specs.declared.input.Wants.{Wants}
use Rattle.client_model.specs.declared.input.Wants.TheVariants as wants
use Rattle.client_model.specs.Conversation.{is_gone_next}
use Rattle.client_model.specs.meaning.Talk.{talk_step, wants_of}
use Rattle.client_model.specs.meaning.Terms.{Talk}
use Rattle.outage_schedule.specs.declared.document.Request.{Request}
use Rattle.shown_clauses.specs.meaning.Causes.{is_had}
use Rattle.shown_clauses.specs.meaning.Steps.{Step as StepTold}
use Rattle.world_model.specs.meaning.Clients.{Step, Doing, Client, client_at, begun}
use Rattle.world_model.specs.records.Conversing.{inputs_of, Talks}
use Rattle.invariant_laws.specs.Invariant.{Invariant}
use Rattle.world_model.specs.meaning.Links.{Link}
use Rattle.world_model.specs.meaning.Settings.{Setting}
use Rattle.world_model.specs.Traced.{Traced}
use Rattle.world_model.specs.Words.{held_in}
use Rattle.caused_laws.specs.Telling.{ToldStep, Before, first_talk, talk_of, act_at, begun_with, SentBy, loss_behind, TellsBy, Tells}
use Rattle.shown_laws.specs.ClientSteps.{HasBegun, wants_at, now_at, ended_at, GoneBehind, GoesOn, IsOver, IsGone, TellsKind, Rested, FoundNone, Waited, WasLent, HasOpened, HasFailed, HasTaken, HasLost}
use Rattle.shown_laws.specs.Tellings.{Telling, steps_in_tellings, unbegun, Begins, WasThere, BeginsNow, TellsStep, TellsRequest}
use Rattle.shown_laws.proofs.steps.FrameAnswered.{IsAnswer}
use Rattle.shown_laws.proofs.links.HeldTold.{Among, held_told, any_reverse}
use Rattle.shown_laws.proofs.heard.TakenHeard.{talks_now, heard_now, is_answer, lost_is}

-- a step that is told, with its inputs
abbrev pub told_of : Telling → ToldStep
told_of one = record { step = one.step; inputs = inputs_of one.acts }

abbrev pub before_of : List Telling → List Step → Before
before_of tellings steps = record { steps = reverse (steps_in_tellings tellings); inputs = inputs_of steps }

-- LOSSES ------------------------------------------------------------------------------------------

lives : (frame : Down) (held : Hold) → is_gone_next (Took frame true) held ≡ false
lives frame hold.Keep = refl
lives frame hold.GiveBack = refl
lives frame hold.Drop = refl

goes_no_further : (frame : Down) (held : Hold) → (held ≡ hold.Keep → ⊥) → is_gone_next (Took frame false) held ≡ false
goes_no_further frame hold.Keep over = absurd (over refl)
goes_no_further frame hold.GiveBack over = refl
goes_no_further frame hold.Drop over = refl

-- THE REQUEST WAS THERE ---------------------------------------------------------------------------

module _ (t : Traced) (inv : Invariant t) (client : ℕ) (own : Client) (here : client_at t.machine.clients client ≡ Some own) (doing : Doing) (step : StepTold) (tick : step.tick ≡ t.machine.tick) where
  abbrev told : List Step → ToldStep
  told acts = record { step = step; inputs = inputs_of acts }

  module _ (now : own.now ≡ Some doing) (steps : List StepTold) (all : (number : ℕ) → Among number (held_in doing.steps) → list_any (λ one. is_had number one.did) steps ≡ true) where
    abbrev before : Before
    before = record { steps = steps; inputs = inputs_of doing.steps }

    talks : Talks t.setting.terms false doing
    talks = talks_now t inv client own here doing now

    wants_there : (wanted : Wants) → wants_at t doing ≡ wanted → wants_of t.setting.terms (talk_of t.setting.terms doing.request (inputs_of doing.steps)) step.tick ≡ wanted
    wants_there wanted is = ap (λ (talk : Talk). wants_of t.setting.terms talk step.tick) talks.stands ∙ (ap (wants_of t.setting.terms doing.talk) tick ∙ is)

    act_same : (input : Input) → act_at t.setting.terms doing.request (inputs_of doing.steps) (input, step.tick) ≡ (now_at t doing input).done.act
    act_same input = ap (λ (talk : Talk). (talk_step t.setting.terms talk input step.tick).1) talks.stands ∙ ap (λ (n : ℕ). (talk_step t.setting.terms doing.talk input n).1) tick

    begun_behind : (input : Input) → HasBegun t doing → (input, t.machine.tick) ∷ [] ≡ begun_with (inputs_of doing.steps) step.tick input
    begun_behind input begins = by doing.steps refl
      where
        by : (made : List Step) → doing.steps ≡ made → (input, t.machine.tick) ∷ [] ≡ begun_with (inputs_of made) step.tick input
        by [] none =
            let stands : first_talk doing.request ≡ doing.talk = sym (ap (λ (made : List Step). talk_of t.setting.terms doing.request (inputs_of made)) none) ∙ talks.stands in
            absurd (begins (sym (ap (λ (talk : Talk). wants_of t.setting.terms talk t.machine.tick) stands)))
        by (one ∷ more) some = ap (λ (n : ℕ). (input, n) ∷ []) (sym tick)

    loss_is : (link : Link) (frame : Down) (more : List Step) → GoneBehind t doing link frame more
        → inputs_of (now_at t doing (Took frame link.is_open) ∷ more)
        ≡ (Took frame link.is_open, step.tick) ∷ loss_behind (is_gone_next (Took frame link.is_open) (act_at t.setting.terms doing.request (inputs_of doing.steps) (Took frame link.is_open, step.tick)).hold) (ended_at link) step.tick
    loss_is link frame _ (GoesOn opens) =
        let none : is_gone_next (Took frame link.is_open) (act_at t.setting.terms doing.request (inputs_of doing.steps) (Took frame link.is_open, step.tick)).hold ≡ false =
        ap (λ (alive : Bool). is_gone_next (Took frame alive) (act_at t.setting.terms doing.request (inputs_of doing.steps) (Took frame link.is_open, step.tick)).hold) opens ∙ lives frame (act_at t.setting.terms doing.request (inputs_of doing.steps) (Took frame link.is_open, step.tick)).hold in
        ap (λ (n : ℕ). (Took frame link.is_open, n) ∷ []) (sym tick)
        ∙ ap (λ (gone : Bool). (Took frame link.is_open, step.tick) ∷ loss_behind gone (ended_at link) step.tick) (sym none)
    loss_is link frame _ (IsOver shut over) =
        let none : is_gone_next (Took frame link.is_open) (act_at t.setting.terms doing.request (inputs_of doing.steps) (Took frame link.is_open, step.tick)).hold ≡ false =
        ap (λ (act : Act). is_gone_next (Took frame link.is_open) act.hold) (act_same (Took frame link.is_open))
        ∙ (ap (λ (alive : Bool). is_gone_next (Took frame alive) (now_at t doing (Took frame link.is_open)).done.act.hold) shut ∙ goes_no_further frame (now_at t doing (Took frame link.is_open)).done.act.hold over) in
        ap (λ (n : ℕ). (Took frame link.is_open, n) ∷ []) (sym tick)
        ∙ ap (λ (gone : Bool). (Took frame link.is_open, step.tick) ∷ loss_behind gone (ended_at link) step.tick) (sym none)
    loss_is link frame _ (IsGone shut keeps) =
        let goes : is_gone_next (Took frame link.is_open) (act_at t.setting.terms doing.request (inputs_of doing.steps) (Took frame link.is_open, step.tick)).hold ≡ true =
        ap (λ (act : Act). is_gone_next (Took frame link.is_open) act.hold) (act_same (Took frame link.is_open))
        ∙ (ap (λ (held : Hold). is_gone_next (Took frame link.is_open) held) keeps ∙ ap (λ (alive : Bool). is_gone_next (Took frame alive) hold.Keep) shut) in
        ap (λ (n : ℕ). (Took frame link.is_open, n) ∷ (Gone (ended_at link), n) ∷ []) (sym tick)
        ∙ ap (λ (gone : Bool). (Took frame link.is_open, step.tick) ∷ loss_behind gone (ended_at link) step.tick) (sym goes)

    there_tells : (acts : List Step) → TellsKind t client (length own.past) doing step acts → Tells t.setting.terms doing.request (record { steps = steps; inputs = inputs_of doing.steps }) (told acts)
    there_tells _ (Rested did is bare) =
        subst (TellsBy t.setting.terms doing.request (record { steps = steps; inputs = inputs_of doing.steps }) (told [])) (sym did) (record { inputs_are = refl; takes_none = bare.taken }, wants_there wants.Early is)
    there_tells _ (FoundNone did is bare) =
        subst (TellsBy t.setting.terms doing.request (record { steps = steps; inputs = inputs_of doing.steps }) (told [])) (sym did) (record { inputs_are = refl; takes_none = bare.taken }, wants_there wants.Frame is)
    there_tells _ (Waited did begins bare) =
        subst (TellsBy t.setting.terms doing.request (record { steps = steps; inputs = inputs_of doing.steps }) (told (now_at t doing Waiting ∷ []))) (sym did) (record { inputs_are = begun_behind Waiting begins; takes_none = bare.taken })
    there_tells _ (WasLent connection link x did begins at held taken session its lost) =
        subst (TellsBy t.setting.terms doing.request (record { steps = steps; inputs = inputs_of doing.steps }) (told (now_at t doing (Lent connection x) ∷ []))) (sym did)
        (x, record { inputs_are = begun_behind (Lent connection x) begins; takes_none = taken })
    there_tells _ (HasOpened connection did new begins bare) =
        subst (TellsBy t.setting.terms doing.request (record { steps = steps; inputs = inputs_of doing.steps }) (told (now_at t doing (Opened connection) ∷ []))) (sym did)
        (record { inputs_are = begun_behind (Opened connection) begins; takes_none = bare.taken })
    there_tells _ (HasFailed did begins bare) =
        subst (TellsBy t.setting.terms doing.request (record { steps = steps; inputs = inputs_of doing.steps }) (told (now_at t doing TryFailed ∷ []))) (sym did) (record { inputs_are = begun_behind TryFailed begins; takes_none = bare.taken })
    there_tells _ (HasTaken connection sent link frame served more did sends has at taken tells session lost gone) =
        let answer : IsAnswer (heard_now t inv client own here doing now).last served.item frame = is_answer t inv client own here doing now connection link has at frame served tells in
        subst (TellsBy t.setting.terms doing.request (record { steps = steps; inputs = inputs_of doing.steps }) (told (now_at t doing (Took frame link.is_open) ∷ more))) (sym did)
        (record {
          served = served;
          is_served = taken;
          frame = frame;
          replies = answer.replies;
          answers = answer.answers;
          expected = answer.expected;
          alive = link.is_open;
          event = ended_at link;
          inputs_are = loss_is link frame more gone;
          sends = subst (λ (act : Act). SentBy act sent) (sym (act_same (Took frame link.is_open))) sends;
          lost = lost_is t inv client own here doing now steps all step.lost served.item lost;
        })
    there_tells _ (HasLost connection link did has at shut bare) =
        subst (TellsBy t.setting.terms doing.request (record { steps = steps; inputs = inputs_of doing.steps }) (told (now_at t doing (Gone (ended_at link)) ∷ []))) (sym did)
        (ended_at link, record { inputs_are = ap (λ (n : ℕ). (Gone (ended_at link), n) ∷ []) (sym tick); takes_none = bare.taken })

  -- THE REQUEST BEGINS ----------------------------------------------------------------------------

  module _ (request : Request) (same : doing ≡ begun t.setting.terms (t.machine.event + 1) t.machine.tick request) (steps : List StepTold) where
    abbrev first : Before
    first = record { steps = steps; inputs = [] }

    begun_now : (input : Input) → (Start, t.machine.tick) ∷ (input, t.machine.tick) ∷ [] ≡ begun_with [] step.tick input
    begun_now input = ap (λ (n : ℕ). (Start, n) ∷ (input, n) ∷ []) (sym tick)

    slot : wants_at t doing ≡ wants.Slot
    slot = ap (λ (d : Doing). wants_of t.setting.terms d.talk t.machine.tick) same

    none : (connection : ℕ) → doing.connection ≡ Some connection → ⊥
    none connection has = let both : ◌≡◌ {A = Option ℕ} None (Some connection) = sym (ap (λ (d : Doing). d.connection) same) ∙ has in let never : ⊥ = cc in never

    begin_tells : (acts : List Step) → TellsKind t client (length own.past) doing step acts → Tells t.setting.terms request (record { steps = steps; inputs = [] }) (told (now_at t (unbegun request) Start ∷ acts))
    begin_tells _ (Rested did is bare) = absurd (let both : wants.Slot ≡ wants.Early = sym slot ∙ is in let never : ⊥ = cc in never)
    begin_tells _ (FoundNone did is bare) = absurd (let both : wants.Slot ≡ wants.Frame = sym slot ∙ is in let never : ⊥ = cc in never)
    begin_tells _ (Waited did begins bare) =
        subst (TellsBy t.setting.terms request (record { steps = steps; inputs = [] }) (told (now_at t (unbegun request) Start ∷ now_at t doing Waiting ∷ []))) (sym did) (record { inputs_are = begun_now Waiting; takes_none = bare.taken })
    begin_tells _ (WasLent connection link x did begins at held taken session its lost) =
        subst (TellsBy t.setting.terms request (record { steps = steps; inputs = [] }) (told (now_at t (unbegun request) Start ∷ now_at t doing (Lent connection x) ∷ []))) (sym did) (x, record { inputs_are = begun_now (Lent connection x); takes_none = taken })
    begin_tells _ (HasOpened connection did new begins bare) =
        subst (TellsBy t.setting.terms request (record { steps = steps; inputs = [] }) (told (now_at t (unbegun request) Start ∷ now_at t doing (Opened connection) ∷ []))) (sym did) (record { inputs_are = begun_now (Opened connection); takes_none = bare.taken })
    begin_tells _ (HasFailed did begins bare) =
        subst (TellsBy t.setting.terms request (record { steps = steps; inputs = [] }) (told (now_at t (unbegun request) Start ∷ now_at t doing TryFailed ∷ []))) (sym did) (record { inputs_are = begun_now TryFailed; takes_none = bare.taken })
    begin_tells _ (HasTaken connection sent link frame served more did sends has at taken tells session lost gone) = absurd (none connection has)
    begin_tells _ (HasLost connection link did has at shut bare) = absurd (none connection has)

-- EACH STEP ---------------------------------------------------------------------------------------

-- What a step tells, behind those that were told before it.
pub step_heard : (setting : Setting) (client place : ℕ) (request : Request) (tellings : List Telling) (steps : List Step) (one : Telling) → TellsRequest setting client place request tellings steps → TellsStep setting client place request steps one
    → Tells setting.terms request (before_of tellings steps) (told_of one)
step_heard setting client place request tellings steps one was s =
    subst (λ (of : Setting). Tells of.terms request (before_of tellings steps) (told_of one)) s.of_run
    (by steps s.began s.begins s.all was)
  where
    kind : TellsKind s.t client (length s.own.past) s.doing one.step s.acts
    kind = subst (λ (at : ℕ). TellsKind s.t client at s.doing one.step s.acts) (sym s.at) s.kind

    by : (steps began : List Step) → Begins s.t s.own s.doing steps began → one.acts ≡ began ++ s.acts → TellsRequest setting client place request tellings steps → Tells s.t.setting.terms request (before_of tellings steps) (told_of one)
    by _ _ (WasThere now) acts was =
        subst (λ (r : Request). Tells s.t.setting.terms r (before_of tellings s.doing.steps) (told_of one)) s.same
        (subst (λ (made : List Step). Tells s.t.setting.terms s.doing.request (before_of tellings s.doing.steps) (record { step = one.step; inputs = inputs_of made })) (sym acts)
        (there_tells s.t s.inv client s.own s.here s.doing one.step s.tick now (reverse (steps_in_tellings tellings))
        (λ number there. any_reverse (λ step. is_had number step.did) (steps_in_tellings tellings) (held_told setting client place request tellings s.doing.steps number was there)) s.acts kind))
    by _ _ (BeginsNow new now next same) acts was =
        let its : new ≡ request = sym (ap (λ (d : Doing). d.request) same) ∙ s.same in
        subst (λ (r : Request). Tells s.t.setting.terms r (before_of tellings []) (told_of one)) its
        (subst (λ (made : List Step). Tells s.t.setting.terms new (before_of tellings []) (record { step = one.step; inputs = inputs_of made })) (sym acts)
        (begin_tells s.t s.inv client s.own s.here s.doing one.step s.tick new same (reverse (steps_in_tellings tellings)) s.acts kind))
