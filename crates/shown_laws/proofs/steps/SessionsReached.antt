-- What is told of the sessions that a request acquired are those that its inputs tell.
use Rattle.std.proofs.Common.{◌≡◌, refl, sym, ap, subst, ◌∙◌, Bool, true, false, ℕ, ◌||◌, List, [], ◌∷◌, ◌++◌, Option, Some, None, option_to_list, if◌then◌else◌}
use Rattle.std.specs.Prelude.{filter_map, is_some}
use Rattle.std.specs.List.{cons_option}
use Rattle.std.proofs.lemmas.List.{map-append}
use Rattle.std.proofs.lemmas.List.Elements.{filter_map-append}
use Rattle.svc_values.specs.declared.entry.Ltxid.{Ltxid}
use Rattle.svc_values.specs.declared.entry.SessionId.{SessionId}
use Rattle.svc_values.specs.declared.frame.Down.{Down}
use Rattle.svc_values.specs.declared.frame.Down.TheVariants as down
use Rattle.svc_values.specs.meaning.Identifiers.{session_of}
use Rattle.svc_values.specs.SameLaws.{same_ltxid_decides}
use Rattle.client_model.specs.meaning.Conversation.{Done}
use Rattle.client_model.specs.declared.input.Input.TheVariants.{Took}
use Rattle.run_clauses.specs.meaning.Reports.{reached}
use Rattle.outage_schedule.specs.declared.item.Item.{Item}
use Rattle.outage_schedule.specs.declared.item.Item.TheVariants as item
use Rattle.outage_schedule.specs.declared.note.AskResult.TheVariants as told
use Rattle.outage_schedule.specs.declared.note.GoNote.{GoNote}
use Rattle.outage_schedule.specs.declared.document.Request.{Request}
use Rattle.shown_clauses.specs.meaning.Links.{is_connect, is_hello}
use Rattle.shown_clauses.specs.meaning.Parts.{is_lent}
use Rattle.shown_clauses.specs.meaning.Steps.{Step as StepTold}
use Rattle.world_model.specs.meaning.Clients.{Step, Doing, Client}
use Rattle.world_model.specs.meaning.Links.{Link}
use Rattle.world_model.specs.meaning.Serving.{identifier, reply_of}
use Rattle.world_model.specs.meaning.Settings.{Setting}
use Rattle.world_model.specs.Traced.{Traced}
use Rattle.world_model.specs.records.Wire.{same_replies}
use Rattle.world_model.specs.Words.{dones_of}
use Rattle.shown_laws.specs.ClientSteps.{IsBare, GoneBehind, GoesOn, IsOver, IsGone, TellsKind, Rested, FoundNone, Waited, WasLent, HasOpened, HasFailed, HasTaken, HasLost}
use Rattle.shown_laws.specs.PartsTold.{OfEach, HasIts}
use Rattle.shown_laws.specs.Tellings.{Telling, steps_in_tellings, Begins, WasThere, BeginsNow, TellsStep, TellsRequest, NoneYet, OneMore}
use Rattle.shown_laws.proofs.steps.PartsSplit.{sessions_told, each_append}

-- the sessions that the inputs of a request tell
abbrev pub sessions_reached : List Step → List SessionId
sessions_reached steps = filter_map (λ step. reached step.done.input) steps

pub reached_append : (xs ys : List Step) → sessions_reached (xs ++ ys) ≡ sessions_reached xs ++ sessions_reached ys
reached_append xs ys = filter_map-append (λ (step : Step). reached step.done.input) xs ys

-- as the report lists them
pub as_reported : (steps : List Step) → filter_map (λ (done : Done). reached done.input) (dones_of steps) ≡ sessions_reached steps
as_reported [] = refl
as_reported (step ∷ steps) = ap (λ (rest : List SessionId). cons_option (reached step.done.input) rest) (as_reported steps)

-- ONE STEP ----------------------------------------------------------------------------------------

-- it has the session that its inputs tell, if any, and acquires it
pub record TellsSession (step : StepTold) (acts : List Step) : Type 0 where
  pub same : sessions_reached acts ≡ option_to_list step.session
  pub has : HasIts step

bare_has : (step : StepTold) → IsBare step → is_lent step.did ≡ false → HasIts step
bare_has step bare lent =
    ap (λ (b : Bool). b || is_hello step.taken) lent ∙ (ap is_hello bare.taken ∙ sym (ap is_some bare.session))

bare_tells : (step : StepTold) (acts : List Step) → IsBare step → is_lent step.did ≡ false → sessions_reached acts ≡ [] → TellsSession step acts
bare_tells step acts bare lent none = record { same = none ∙ sym (ap option_to_list bare.session); has = bare_has step bare lent }

-- A Hello is the reply to a Connect, and to nothing else.
hello_told : (frame : Down) (alive : Bool) (session : SessionId) (commits : ℕ) (one : Item) → same_replies (Some frame) (reply_of session commits one) ≡ true
    → reached (Took frame alive) ≡ (if is_connect one then Some session else None)
hello_told (down.Hello x) alive session commits item.Connect says =
    let same : x ≡ identifier session commits = (same_ltxid_decides x (identifier session commits)).0 says in
    ap (λ (y : Ltxid). Some (session_of y)) same
hello_told (down.Hello x) alive session commits (item.Outcome asked (told.Committed completed)) says = absurd (let none : ⊥ = cc in none)
hello_told (down.Hello x) alive session commits (item.Outcome asked told.Uncommitted) says = absurd (let none : ⊥ = cc in none)
hello_told (down.Hello x) alive session commits (item.Outcome asked (told.ServerAhead next)) says = absurd (let none : ⊥ = cc in none)
hello_told (down.Hello x) alive session commits (item.Outcome asked (told.ClientAhead next)) says = absurd (let none : ⊥ = cc in none)
hello_told (down.Hello x) alive session commits (item.Outcome asked (told.Forgotten horizon)) says = absurd (let none : ⊥ = cc in none)
hello_told (down.Hello x) alive session commits _ says = absurd (let none : ⊥ = cc in none)
hello_told (down.Reply answers draws x) alive session commits item.Connect says = absurd (let none : ⊥ = cc in none)
hello_told (down.OutcomeIs committed completed) alive session commits item.Connect says = absurd (let none : ⊥ = cc in none)
hello_told (down.OutcomeRefused ahead next) alive session commits item.Connect says = absurd (let none : ⊥ = cc in none)
hello_told down.Blocked alive session commits item.Connect says = absurd (let none : ⊥ = cc in none)
hello_told (down.Refused cause) alive session commits item.Connect says = absurd (let none : ⊥ = cc in none)
hello_told _ alive session commits _ says = refl

some_if : (session : SessionId) (test : Bool) → is_some (if test then Some session else None) ≡ test
some_if session true = refl
some_if session false = refl

none_behind : (t : Traced) (doing : Doing) (link : Link) (frame : Down) (more : List Step) → GoneBehind t doing link frame more → sessions_reached more ≡ []
none_behind t doing link frame _ (GoesOn opens) = refl
none_behind t doing link frame _ (IsOver ended over) = refl
none_behind t doing link frame _ (IsGone ended keeps) = refl

pub as_list : {A : Type 0} (found : Option A) → cons_option found [] ≡ option_to_list found
as_list None = refl
as_list (Some one) = refl

pub kind_session : (t : Traced) (client place : ℕ) (doing : Doing) (step : StepTold) (acts : List Step) → TellsKind t client place doing step acts → TellsSession step acts
kind_session t client place doing step _ (Rested did early bare) = bare_tells step [] bare (ap is_lent did) refl
kind_session t client place doing step _ (FoundNone did frame bare) = bare_tells step [] bare (ap is_lent did) refl
kind_session t client place doing step _ (Waited did begun bare) = bare_tells step _ bare (ap is_lent did) refl
kind_session t client place doing step _ (WasLent connection link ltxid did begun there held taken its session lost) =
    record { same = sym (ap option_to_list session); has = ap (λ (note : GoNote). is_lent note || is_hello step.taken) did ∙ sym (ap is_some session) }
kind_session t client place doing step _ (HasOpened connection did next begun bare) = bare_tells step _ bare (ap is_lent did) refl
kind_session t client place doing step _ (HasFailed did begun bare) = bare_tells step _ bare (ap is_lent did) refl
kind_session t client place doing step _ (HasLost connection link did has there ended bare) = bare_tells step _ bare (ap is_lent did) refl
kind_session t client place doing step _ (HasTaken connection sent link frame served more did sends has there taken reply session lost gone) =
    record {
      same = ap (λ (rest : List SessionId). cons_option (reached (Took frame link.is_open)) rest) (none_behind t doing link frame more gone)
          ∙ (as_list (reached (Took frame link.is_open)) ∙ ap option_to_list (hello_told frame link.is_open served.session reply.commits served.item reply.says ∙ sym session));
      has = ap (λ (note : GoNote). is_lent note || is_hello step.taken) did ∙ (ap is_hello taken ∙ sym (ap is_some session ∙ some_if served.session (is_connect served.item)));
    }

-- The Start of a request tells none.
pub step_session : (setting : Setting) (client place : ℕ) (request : Request) (steps : List Step) (one : Telling) → TellsStep setting client place request steps one → TellsSession one.step one.acts
step_session setting client place request steps one tells = record {
  same = ap sessions_reached tells.all ∙ (reached_append tells.began tells.acts ∙ (ap (λ (l : List SessionId). l ++ sessions_reached tells.acts) (begins_none tells.own tells.doing steps tells.began tells.begins) ∙ its.same));
  has = its.has;
}
  where
    its : TellsSession one.step tells.acts
    its = kind_session tells.t client place tells.doing one.step tells.acts tells.kind

    begins_none : (own : Client) (doing : Doing) (steps began : List Step) → Begins tells.t own doing steps began → sessions_reached began ≡ []
    begins_none own doing _ _ (WasThere now) = refl
    begins_none own doing _ _ (BeginsNow request now next is) = refl

-- ALL STEPS OF A REQUEST --------------------------------------------------------------------------

cons_list : (found : Option SessionId) (more : List SessionId) → more ++ option_to_list found ≡ more ++ cons_option found []
cons_list None more = refl
cons_list (Some session) more = refl

pub request_sessions : (setting : Setting) (client place : ℕ) (request : Request) (tellings : List Telling) (steps : List Step) → TellsRequest setting client place request tellings steps
    → (sessions_told (steps_in_tellings tellings) ≡ sessions_reached steps) × OfEach HasIts (steps_in_tellings tellings)
request_sessions setting client place request _ _ NoneYet = (refl, tt)
request_sessions setting client place request _ _ (OneMore tellings steps one before tells) =
    let its = step_session setting client place request steps one tells in
    let rest = request_sessions setting client place request tellings steps before in
    let more : steps_in_tellings (tellings ++ one ∷ []) ≡ steps_in_tellings tellings ++ one.step ∷ [] = map-append (λ (x : Telling). x.step) tellings (one ∷ []) in (
      ap sessions_told more
          ∙ (filter_map-append (λ (step : StepTold). step.session) (steps_in_tellings tellings) (one.step ∷ [])
          ∙ (sym (cons_list one.step.session (sessions_told (steps_in_tellings tellings)))
          ∙ (ap (λ (l : List SessionId). l ++ option_to_list one.step.session) rest.0
          ∙ (ap (λ (l : List SessionId). sessions_reached steps ++ l) (sym its.same) ∙ sym (reached_append steps one.acts))))),
      subst (OfEach HasIts) (sym more) (each_append HasIts (steps_in_tellings tellings) (one.step ∷ []) rest.1 (its.has, tt)),
    )
