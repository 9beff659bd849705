-- The parts of a client that is at no request are its requests', each with the sessions of its
-- report.
use Rattle.std.proofs.Common.{◌≡◌, refl, sym, ap, subst, ◌∙◌, append-nil, append_assoc, Bool, true, false, ℕ, ◌+◌, ◌||◌, length, List, [], ◌∷◌, ◌++◌, map, Option, Some, None, inl}
use Rattle.std.proofs.lemmas.List.{map-append}
use Rattle.outage_schedule.specs.declared.document.Request.{Request}
use Rattle.outage_schedule.specs.declared.item.Item.TheVariants as item
use Rattle.outage_schedule.specs.declared.note.GoNote.{GoNote}
use Rattle.outage_schedule.specs.declared.request.RequestReport.{RequestReport}
use Rattle.shown_clauses.specs.meaning.Links.{is_connect, is_hello}
use Rattle.shown_clauses.specs.meaning.Parts.{acquires, is_lent, parts_of}
use Rattle.shown_clauses.specs.meaning.Steps.{Step as StepTold}
use Rattle.world_model.specs.meaning.Clients.{Step, Doing, Client, Past}
use Rattle.world_model.specs.records.Conversing.{IsTalking, AreThrough, IsThrough, Talks}
use Rattle.world_model.specs.meaning.Settings.{Setting}
use Rattle.world_model.specs.Traced.{Traced}
use Rattle.shown_laws.specs.ClientSteps.{IsBare, TellsKind, Rested, FoundNone, Waited, WasLent, HasOpened, HasFailed, HasTaken, HasLost}
use Rattle.shown_laws.specs.PartsTold.{OfEach, HasIts, IsQuiet, Opens, Never, At, Split, ArePartsOf}
use Rattle.shown_laws.specs.Submitted.{submission_of}
use Rattle.shown_laws.specs.Tellings.{Telling, steps_in_tellings, Begins, WasThere, BeginsNow, TellsStep, TellsRequest, NoneYet, OneMore, TellsPast, NonePast, OnePast, TellsNow, NoneNow, OneNow, joined, TellsClient}
use Rattle.shown_laws.proofs.steps.BeforeSession.{is_unmet, doing_unmet, takes_connect, talks_at}
use Rattle.shown_laws.proofs.steps.PartsCut.{parts_cut}
use Rattle.shown_laws.proofs.steps.PartsSplit.{sessions_told, each_append, quiet_gives, AreSplit, NoneSplit, OneSplit, cut_split}
use Rattle.shown_laws.proofs.steps.SessionsReached.{sessions_reached, as_reported, request_sessions}

-- QUIET STEPS -------------------------------------------------------------------------------------

bare_quiet : (step : StepTold) → IsBare step → is_lent step.did ≡ false → IsQuiet step
bare_quiet step bare lent = record { takes_none = bare.taken; has_none = bare.session; acquires_none = ap (λ (b : Bool). b || is_hello step.taken) lent ∙ ap is_hello bare.taken }

-- a step of a request without a session is quiet, or it acquires one
kind_quiet : (t : Traced) (client place : ℕ) (doing : Doing) (step : StepTold) (acts : List Step) → is_unmet doing.talk.phase ≡ true → TellsKind t client place doing step acts → acquires step ≡ false → IsQuiet step
kind_quiet t client place doing step _ unmet (Rested did early bare) none = bare_quiet step bare (ap is_lent did)
kind_quiet t client place doing step _ unmet (FoundNone did frame bare) none = bare_quiet step bare (ap is_lent did)
kind_quiet t client place doing step _ unmet (Waited did begun bare) none = bare_quiet step bare (ap is_lent did)
kind_quiet t client place doing step _ unmet (HasOpened connection did next begun bare) none = bare_quiet step bare (ap is_lent did)
kind_quiet t client place doing step _ unmet (HasFailed did begun bare) none = bare_quiet step bare (ap is_lent did)
kind_quiet t client place doing step _ unmet (HasLost connection link did has there ended bare) none = bare_quiet step bare (ap is_lent did)
kind_quiet t client place doing step _ unmet (WasLent connection link ltxid did begun there held taken its session lost) none =
    let yes : acquires step ≡ true = ap (λ (note : GoNote). is_lent note || is_hello step.taken) did in
    absurd (let never : ⊥ = cc in never)
kind_quiet t client place doing step _ unmet (HasTaken connection sent link frame served more did sends has there taken reply session lost gone) none =
    let its : served.item ≡ item.Connect = takes_connect doing.talk.phase reply.one.sent reply.sent served.item unmet reply.awaited reply.same reply.is_its in
    let yes : acquires step ≡ true = ap (λ (note : GoNote). is_lent note || is_hello step.taken) did ∙ (ap is_hello taken ∙ ap is_connect its) in
    absurd (let never : ⊥ = cc in never)

step_quiet : (setting : Setting) (client place : ℕ) (request : Request) (steps : List Step) (one : Telling) → TellsStep setting client place request steps one → sessions_reached steps ≡ [] → acquires one.step ≡ false → IsQuiet one.step
step_quiet setting client place request steps one tells none acquired = kind_quiet tells.t client place tells.doing one.step tells.acts (by steps tells.began tells.begins none) tells.kind acquired
  where
    talking : (own : Client) (doing : Doing) → own.now ≡ Some doing → IsTalking tells.t.setting.terms own.now → Talks tells.t.setting.terms false doing
    talking own doing now talks = subst (IsTalking tells.t.setting.terms) now talks

    by : (steps began : List Step) → Begins tells.t tells.own tells.doing steps began → sessions_reached steps ≡ [] → is_unmet tells.doing.talk.phase ≡ true
    by _ _ (WasThere now) none =
        doing_unmet tells.t.setting.terms false tells.doing
        (talking tells.own tells.doing now (talks_at tells.t.setting.terms tells.t.machine.clients client tells.own tells.inv.orderly.script.talks tells.here).1) none
    by _ _ (BeginsNow first now next is) none = ap (λ (doing : Doing). is_unmet doing.talk.phase) is

-- REQUESTS ----------------------------------------------------------------------------------------

none_in : (steps : List StepTold) → OfEach IsQuiet steps → sessions_told steps ≡ []
none_in steps all = quiet_gives (λ step. step.session) (λ step is. is.has_none) steps all

split_more : (steps : List StepTold) (one : StepTold) → Split steps → (sessions_told steps ≡ [] → acquires one ≡ false → IsQuiet one) → OfEach HasIts steps → Split (steps ++ one ∷ [])
split_more steps one split quiet has = by split.own split.opens split.all
  where
    by : (own : List StepTold) → Opens own → steps ≡ split.before ++ own → Split (steps ++ one ∷ [])
    by _ (At first later opens) all = record {
      before = split.before;
      own = first ∷ later ++ one ∷ [];
      all = ap (λ (l : List StepTold). l ++ one ∷ []) all ∙ append_assoc split.before (first ∷ later) (one ∷ []);
      quiet = split.quiet;
      opens = At first (later ++ one ∷ []) opens;
    }
    by _ Never all = here (acquires one) refl
      where
        same : steps ≡ split.before
        same = all ∙ append-nil split.before

        here : (test : Bool) → acquires one ≡ test → Split (steps ++ one ∷ [])
        here true is = record { before = split.before; own = one ∷ []; all = ap (λ (l : List StepTold). l ++ one ∷ []) same; quiet = split.quiet; opens = At one [] is }
        here false is = record {
          before = split.before ++ one ∷ [];
          own = [];
          all = ap (λ (l : List StepTold). l ++ one ∷ []) same ∙ sym (append-nil (split.before ++ one ∷ []));
          quiet = each_append IsQuiet split.before (one ∷ []) split.quiet (quiet (ap sessions_told same ∙ none_in split.before split.quiet) is, tt);
          opens = Never;
        }

request_split : (setting : Setting) (client place : ℕ) (request : Request) (tellings : List Telling) (steps : List Step) → TellsRequest setting client place request tellings steps → Split (steps_in_tellings tellings)
request_split setting client place request _ _ NoneYet = record { before = []; own = []; all = refl; quiet = tt; opens = Never }
request_split setting client place request _ _ (OneMore tellings steps one before tells) =
    let its = request_sessions setting client place request tellings steps before in
    subst Split (sym (map-append (λ (x : Telling). x.step) tellings (one ∷ [])))
    (split_more (steps_in_tellings tellings) one.step (request_split setting client place request tellings steps before) (λ none acquired. step_quiet setting client place request steps one tells (sym its.0 ∙ none) acquired) its.1)

-- CLIENTS -----------------------------------------------------------------------------------------

-- the sessions of a report are those that its steps acquired
pub sessions_listed : (setting : Setting) (client place : ℕ) (past : Past) (tellings : List Telling) → IsThrough setting.terms past → TellsRequest setting client place past.request tellings past.steps
    → sessions_told (steps_in_tellings tellings) ≡ past.report.sessions
sessions_listed setting client place past tellings through tells =
    (request_sessions setting client place past.request tellings past.steps tells).0
    ∙ (sym (as_reported past.steps) ∙ ap (λ (copy : RequestReport). copy.sessions) through.reported)

pub are_split : (setting : Setting) (client place : ℕ) (past : List Past) (told : List (List Telling)) → AreThrough setting.terms past → TellsPast setting client place past told → AreSplit past told
are_split setting client place _ _ through (NonePast start) = NoneSplit
are_split setting client place _ _ through (OnePast start one others tellings more tells rest) =
    OneSplit one others tellings more (request_split setting client start one.request tellings one.steps tells) (request_sessions setting client start one.request tellings one.steps tells).1
    (ap length (sessions_listed setting client start one tellings through.0 tells)) (are_split setting client (start + 1) others more through.1 rest)

now_none : (setting : Setting) (client place : ℕ) (now : Option Doing) (tellings : List Telling) → TellsNow setting client place now tellings → now ≡ None → tellings ≡ []
now_none setting client place _ _ NoneNow is = refl
now_none setting client place _ _ (OneNow doing tellings tells) is = absurd (let none : ⊥ = cc in none)

-- all that is told of a client at no request is of those that are over
pub whole_told : (setting : Setting) (client : ℕ) (own : Client) (told : List StepTold) → own.now ≡ None → (tells : TellsClient setting client own told) → told ≡ steps_in_tellings (joined tells.past)
whole_told setting client own told rests tells =
    tells.all ∙ ap steps_in_tellings (ap (λ (now : List Telling). joined tells.past ++ now) (now_none setting client (length own.past) own.now tells.now tells.tells_now rests) ∙ append-nil (joined tells.past))

-- The steps of a client at no request, cut by the sessions of its reports, are those of its
-- requests.
pub parts_told : (setting : Setting) (client : ℕ) (own : Client) (told : List StepTold) → AreThrough setting.terms own.past → own.now ≡ None → (tells : TellsClient setting client own told)
    → ArePartsOf own.past tells.past (parts_of (map submission_of own.past) told)
parts_told setting client own told through rests tells =
    subst (ArePartsOf own.past tells.past) (sym (parts_cut (map submission_of own.past) told))
    (cut_split own.past tells.past told (are_split setting client 0 own.past tells.past through tells.tells_past) (inl (whole_told setting client own told rests tells)))
