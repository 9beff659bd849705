-- A step at which a request was lent a connection, or took a reply, is told as one that has a
-- session or a reply.
use Rattle.std.proofs.Common.{◌≡◌, refl, sym, ap, ◌∙◌, Bool, true, false, ℕ, ◌+◌, ◌&&◌, ◌||◌, List, [], ◌∷◌, ◌⊎◌, inl, inr}
use Rattle.std.specs.Prelude.{◌==◌, is_some}
use Rattle.std.specs.List.{list_any}
use Rattle.std.proofs.lemmas.Bool.{and_parts, and_from, or_cases, or_left, or_right}
use Rattle.std.proofs.lemmas.List.{map-append}
use Rattle.std.proofs.lemmas.List.Folds.{list_any-append}
use Rattle.client_model.specs.declared.input.Input.TheVariants.{Start, Waiting, Lent, Opened, TryFailed, Took, Gone}
use Rattle.outage_schedule.specs.declared.document.Request.{Request}
use Rattle.shown_clauses.specs.meaning.Steps.{Step as StepTold}
use Rattle.world_model.specs.meaning.Clients.{Step, Doing}
use Rattle.world_model.specs.meaning.Links.{Link}
use Rattle.world_model.specs.meaning.Settings.{Setting}
use Rattle.world_model.specs.Traced.{Traced}
use Rattle.svc_values.specs.declared.frame.Down.{Down}
use Rattle.shown_laws.specs.ClientSteps.{now_at, after_now, ended_at, GoneBehind, GoesOn, IsOver, IsGone, TellsKind, Rested, FoundNone, Waited, WasLent, HasOpened, HasFailed, HasTaken, HasLost}
use Rattle.shown_laws.specs.PartsTold.{IsQuiet}
use Rattle.shown_laws.specs.Tellings.{Telling, steps_in_tellings, unbegun, Begins, WasThere, BeginsNow, TellsStep, TellsRequest, NoneYet, OneMore}
use Rattle.shown_laws.specs.TurnOwners.{is_met, meets_at, has_step_at}
use Rattle.shown_laws.proofs.events.Lookups.{eq_from, eq_to}

-- it is of this event, and has a reply or a session
abbrev pub is_loud : ℕ → StepTold → Bool
is_loud event step = (step.event == event) && (is_some step.taken || is_some step.session)

pub quiet_silent : (event : ℕ) (step : StepTold) → IsQuiet step → is_loud event step ≡ true → ⊥
quiet_silent event step quiet loud = by (or_cases (is_some step.taken) (is_some step.session) (and_parts (step.event == event) (is_some step.taken || is_some step.session) loud).1)
  where
    by : (is_some step.taken ≡ true) ⊎ (is_some step.session ≡ true) → ⊥
    by (inl taken) = let no : is_some step.taken ≡ false = ap is_some quiet.takes_none in let none : ⊥ = cc in none
    by (inr session) = let no : is_some step.session ≡ false = ap is_some quiet.has_none in let none : ⊥ = cc in none

-- ONE STEP ----------------------------------------------------------------------------------------

-- the first of them meets, or one behind
first_met : (event : ℕ) (first : Step) (more : List Step) → has_step_at event (first ∷ more) ≡ true → ((first.event ≡ event) × (is_met first.done.input ≡ true)) ⊎ (has_step_at event more ≡ true)
first_met event first more has = by (or_cases (meets_at event first) (has_step_at event more) has)
  where
    by : (meets_at event first ≡ true) ⊎ (has_step_at event more ≡ true) → ((first.event ≡ event) × (is_met first.done.input ≡ true)) ⊎ (has_step_at event more ≡ true)
    by (inl here) = let parts = and_parts (first.event == event) (is_met first.done.input) here in inl (eq_from first.event event parts.0, parts.1)
    by (inr there) = inr there

-- one that is no such step
never_met : (event : ℕ) (first : Step) → is_met first.done.input ≡ false → has_step_at event (first ∷ []) ≡ true → ⊥
never_met event first other has = by (first_met event first [] has)
  where
    by : ((first.event ≡ event) × (is_met first.done.input ≡ true)) ⊎ (has_step_at event [] ≡ true) → ⊥
    by (inl here) = let yes : is_met first.done.input ≡ true = here.1 in let none : ⊥ = cc in none
    by (inr there) = let none : ⊥ = cc in none

module _ (t : Traced) (client place : ℕ) (doing : Doing) (step : StepTold) (now : step.event ≡ t.machine.event + 1) (event : ℕ) where
  loud_by : t.machine.event + 1 ≡ event → (is_some step.taken || is_some step.session) ≡ true → is_loud event step ≡ true
  loud_by same some = and_from (step.event == event) (is_some step.taken || is_some step.session) (eq_to step.event event (now ∙ same)) some

  gone_never : (link : Link) (frame : Down) (more : List Step) → GoneBehind t doing link frame more → has_step_at event more ≡ true → ⊥
  gone_never link frame _ (GoesOn opens) has = let none : ⊥ = cc in none
  gone_never link frame _ (IsOver shut over) has = let none : ⊥ = cc in none
  gone_never link frame _ (IsGone shut keeps) has = never_met event (now_at t (after_now t doing (Took frame link.is_open)) (Gone (ended_at link))) refl has

  kind_loud : (acts : List Step) → TellsKind t client place doing step acts → has_step_at event acts ≡ true → is_loud event step ≡ true
  kind_loud _ (Rested did early bare) has = absurd (let none : ⊥ = cc in none)
  kind_loud _ (FoundNone did frame bare) has = absurd (let none : ⊥ = cc in none)
  kind_loud _ (Waited did begun bare) has = absurd (never_met event (now_at t doing Waiting) refl has)
  kind_loud _ (HasOpened connection did next begun bare) has = absurd (never_met event (now_at t doing (Opened connection)) refl has)
  kind_loud _ (HasFailed did begun bare) has = absurd (never_met event (now_at t doing TryFailed) refl has)
  kind_loud _ (HasLost connection link did has_it there ended bare) has = absurd (never_met event (now_at t doing (Gone (ended_at link))) refl has)
  kind_loud _ (WasLent connection link ltxid did begun there held taken its session lost) has = by (first_met event (now_at t doing (Lent connection ltxid)) [] has)
    where
      by : ((t.machine.event + 1 ≡ event) × (true ≡ true)) ⊎ (has_step_at event [] ≡ true) → is_loud event step ≡ true
      by (inl here) = loud_by here.0 (or_right (is_some step.taken) (is_some step.session) (ap is_some session))
      by (inr never) = absurd (let none : ⊥ = cc in none)
  kind_loud _ (HasTaken connection sent link frame served more did sends has_it there taken reply session lost gone) has = by (first_met event (now_at t doing (Took frame link.is_open)) more has)
    where
      by : ((t.machine.event + 1 ≡ event) × (true ≡ true)) ⊎ (has_step_at event more ≡ true) → is_loud event step ≡ true
      by (inl here) = loud_by here.0 (or_left (is_some step.taken) (is_some step.session) (ap is_some taken))
      by (inr never) = absurd (gone_never link frame more gone never)

step_loud : (setting : Setting) (client place : ℕ) (request : Request) (steps : List Step) (one : Telling) (event : ℕ) → TellsStep setting client place request steps one → has_step_at event one.acts ≡ true → is_loud event one.step ≡ true
step_loud setting client place request steps one event tells has =
    kind_loud tells.t client place tells.doing one.step tells.event event tells.acts tells.kind (by steps tells.began tells.begins (sym (list_any-append (meets_at event) tells.began tells.acts) ∙ (ap (has_step_at event) (sym tells.all) ∙ has)))
  where
    by : (steps began : List Step) → Begins tells.t tells.own tells.doing steps began → (has_step_at event began || has_step_at event tells.acts) ≡ true → has_step_at event tells.acts ≡ true
    by _ _ (WasThere now) any = any
    by _ _ (BeginsNow first now next same) any = behind (or_cases (has_step_at event (now_at tells.t (unbegun first) Start ∷ [])) (has_step_at event tells.acts) any)
      where
        behind : (has_step_at event (now_at tells.t (unbegun first) Start ∷ []) ≡ true) ⊎ (has_step_at event tells.acts ≡ true) → has_step_at event tells.acts ≡ true
        behind (inl here) = absurd (never_met event (now_at tells.t (unbegun first) Start) refl here)
        behind (inr there) = there

-- ALL STEPS OF A REQUEST --------------------------------------------------------------------------

pub request_loud : (setting : Setting) (client place : ℕ) (request : Request) (tellings : List Telling) (steps : List Step) (event : ℕ) → TellsRequest setting client place request tellings steps → has_step_at event steps ≡ true
    → list_any (is_loud event) (steps_in_tellings tellings) ≡ true
request_loud setting client place request _ _ event NoneYet has = absurd (let none : ⊥ = cc in none)
request_loud setting client place request _ _ event (OneMore tellings steps one before tells) has =
    ap (list_any (is_loud event)) (map-append (λ (x : Telling). x.step) tellings (one ∷ []))
    ∙ (list_any-append (is_loud event) (steps_in_tellings tellings) (one.step ∷ [])
    ∙ by (or_cases (has_step_at event steps) (has_step_at event one.acts) (sym (list_any-append (meets_at event) steps one.acts) ∙ has)) (λ there. request_loud setting client place request tellings steps event before there))
  where
    by : (has_step_at event steps ≡ true) ⊎ (has_step_at event one.acts ≡ true) → (has_step_at event steps ≡ true → list_any (is_loud event) (steps_in_tellings tellings) ≡ true)
        → (list_any (is_loud event) (steps_in_tellings tellings) || list_any (is_loud event) (one.step ∷ [])) ≡ true
    by (inl there) rest = or_left (list_any (is_loud event) (steps_in_tellings tellings)) (list_any (is_loud event) (one.step ∷ [])) (rest there)
    by (inr here) rest =
        or_right (list_any (is_loud event) (steps_in_tellings tellings)) (list_any (is_loud event) (one.step ∷ []))
        (or_left (is_loud event one.step) false (step_loud setting client place request steps one event tells here))
