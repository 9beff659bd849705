-- The connections that a request held are told: it opened each, or was lent it.
use Rattle.std.proofs.Common.{◌≡◌, refl, sym, ap, subst, ◌∙◌, Bool, true, false, ℕ, ◌||◌, List, [], ◌∷◌, ◌++◌, Option, Some, None, ◌⊎◌, inl, inr, if◌then◌else◌}
use Rattle.std.specs.Prelude.{◌==◌, fold, reverse}
use Rattle.std.specs.List.{list_all, list_any, cons_option}
use Rattle.std.proofs.lemmas.Bool.{and_parts, or_cases, or_left, or_right}
use Rattle.std.proofs.lemmas.Grind.{reverse_onto}
use Rattle.std.proofs.lemmas.List.{map-append}
use Rattle.std.proofs.lemmas.List.Elements.{filter_map-append}
use Rattle.std.proofs.lemmas.List.Folds.{list_any-append}
use Rattle.client_model.specs.declared.input.Input.{Input}
use Rattle.client_model.specs.declared.input.Input.TheVariants.{Start, Waiting, Lent, Opened, TryFailed, Took, Gone}
use Rattle.outage_schedule.specs.declared.document.Request.{Request}
use Rattle.shown_clauses.specs.meaning.Causes.{is_had}
use Rattle.shown_clauses.specs.meaning.Steps.{Step as StepTold}
use Rattle.world_model.specs.meaning.Clients.{Step, Doing}
use Rattle.world_model.specs.records.Conversing.{connected, connection_after}
use Rattle.invariant_laws.specs.Lost.{without_last, has_last, lost_links}
use Rattle.world_model.specs.meaning.Settings.{Setting}
use Rattle.world_model.specs.Traced.{Traced, Course}
use Rattle.world_model.specs.Words.{brought, held_in}
use Rattle.shown_laws.specs.ClientSteps.{GoneBehind, GoesOn, IsOver, IsGone, TellsKind, Rested, FoundNone, Waited, WasLent, HasOpened, HasFailed, HasTaken, HasLost}
use Rattle.shown_laws.specs.Tellings.{Telling, steps_in_tellings, Begins, WasThere, BeginsNow, TellsRequest, NoneYet, OneMore}
use Rattle.shown_laws.proofs.events.Lookups.{eq_from, eq_to}

-- WHAT A REQUEST HELD -----------------------------------------------------------------------------

abbrev pub Among : ℕ → List ℕ → Type 0
Among number numbers = list_any (λ other. other == number) numbers ≡ true

behind_option : (found : Option ℕ) (rest : List ℕ) (number : ℕ) → Among number rest → Among number (cons_option found rest)
behind_option None rest number there = there
behind_option (Some one) rest number there = or_right (one == number) (list_any (λ other. other == number) rest) there

brought_one : (input : Input) (had : Option ℕ) (number : ℕ) (rest : List ℕ) → connected had input ≡ Some number → (had ≡ Some number) ⊎ Among number (cons_option (brought input) rest)
brought_one (Lent connection x) had number rest is = inr (or_left (connection == number) (list_any (λ other. other == number) rest) (eq_to connection number (let same : connection ≡ number = cc in same)))
brought_one (Opened connection) had number rest is = inr (or_left (connection == number) (list_any (λ other. other == number) rest) (eq_to connection number (let same : connection ≡ number = cc in same)))
brought_one (Gone event) had number rest is = absurd (let none : ⊥ = cc in none)
brought_one Start had number rest is = inl is
brought_one Waiting had number rest is = inl is
brought_one TryFailed had number rest is = inl is
brought_one (Took frame alive) had number rest is = inl is

held_from : (steps : List Step) (had : Option ℕ) (number : ℕ) → fold (λ before step. connected before step.done.input) had steps ≡ Some number → (had ≡ Some number) ⊎ Among number (held_in steps)
held_from [] had number is = inl is
held_from (step ∷ steps) had number is = by (held_from steps (connected had step.done.input) number is)
  where
    by : (connected had step.done.input ≡ Some number) ⊎ Among number (held_in steps) → (had ≡ Some number) ⊎ Among number (held_in (step ∷ steps))
    by (inl here) = brought_one step.done.input had number (held_in steps) here
    by (inr there) = inr (behind_option (brought step.done.input) (held_in steps) number there)

-- the connection that a request has is one that it held
pub has_among : (steps : List Step) (number : ℕ) → connection_after steps ≡ Some number → Among number (held_in steps)
has_among steps number is = by (held_from steps None number is)
  where
    by : (None ≡ Some number) ⊎ Among number (held_in steps) → Among number (held_in steps)
    by (inl never) = absurd (let none : ⊥ = cc in none)
    by (inr there) = there

without_among : (numbers : List ℕ) (number : ℕ) → Among number (without_last numbers) → Among number numbers
without_among [] number there = there
without_among (one ∷ []) number there = absurd (let none : ⊥ = cc in none)
without_among (one ∷ next ∷ others) number there = by (or_cases (one == number) (list_any (λ other. other == number) (without_last (next ∷ others))) there) (without_among (next ∷ others) number)
  where
    by : ((one == number) ≡ true) ⊎ Among number (without_last (next ∷ others)) → (Among number (without_last (next ∷ others)) → Among number (next ∷ others)) → Among number (one ∷ next ∷ others)
    by (inl here) rest = or_left (one == number) (list_any (λ other. other == number) (next ∷ others)) here
    by (inr behind) rest = or_right (one == number) (list_any (λ other. other == number) (next ∷ others)) (rest behind)

-- and so is each that it lost
pub lost_among : (course : Course) (number : ℕ) → Among number (lost_links course) → Among number (held_in course.steps)
lost_among course number there = by (has_last course) there
  where
    by : (last : Bool) → Among number (if last then without_last (held_in course.steps) else held_in course.steps) → Among number (held_in course.steps)
    by true there = without_among (held_in course.steps) number there
    by false there = there

-- a test of all that it held
pub all_among : (test : ℕ → Bool) (numbers : List ℕ) (number : ℕ) → list_all test numbers ≡ true → Among number numbers → test number ≡ true
all_among test [] number all there = absurd (let none : ⊥ = cc in none)
all_among test (one ∷ numbers) number all there = by (or_cases (one == number) (list_any (λ other. other == number) numbers) there) (all_among test numbers number)
  where
    parts : (test one ≡ true) × (list_all test numbers ≡ true)
    parts = and_parts (test one) (list_all test numbers) all

    by : ((one == number) ≡ true) ⊎ Among number numbers → (list_all test numbers ≡ true → Among number numbers → test number ≡ true) → test number ≡ true
    by (inl here) rest = ap test (sym (eq_from one number here)) ∙ parts.0
    by (inr behind) rest = rest parts.1 behind

-- AS IT IS TOLD -----------------------------------------------------------------------------------

one_among : (one number : ℕ) → Among number (one ∷ []) → (one == number) ≡ true
one_among one number there = by (or_cases (one == number) false there)
  where
    by : ((one == number) ≡ true) ⊎ (◌≡◌ {A = Bool} false true) → (one == number) ≡ true
    by (inl here) = here
    by (inr never) = absurd (let none : ⊥ = cc in none)

none_among : (number : ℕ) → Among number [] → ⊥
none_among number there = let none : ⊥ = cc in none

pub gone_held : (t : Traced) (doing : Doing) (number : ℕ) {link : _} {frame : _} (more : List Step) → GoneBehind t doing link frame more → held_in more ≡ []
gone_held t doing number _ (GoesOn opens) = refl
gone_held t doing number _ (IsOver shut over) = refl
gone_held t doing number _ (IsGone shut keeps) = refl

kind_held : (t : Traced) (client place : ℕ) (doing : Doing) (step : StepTold) (acts : List Step) (number : ℕ) → TellsKind t client place doing step acts → Among number (held_in acts) → is_had number step.did ≡ true
kind_held t client place doing step _ number (Rested did wants bare) there = absurd (none_among number there)
kind_held t client place doing step _ number (FoundNone did wants bare) there = absurd (none_among number there)
kind_held t client place doing step _ number (Waited did begun bare) there = absurd (none_among number there)
kind_held t client place doing step _ number (WasLent connection link x did begun here held taken session its lost) there = ap (is_had number) did ∙ one_among connection number there
kind_held t client place doing step _ number (HasOpened connection did new begun bare) there = ap (is_had number) did ∙ one_among connection number there
kind_held t client place doing step _ number (HasFailed did begun bare) there = absurd (none_among number there)
kind_held t client place doing step _ number (HasTaken connection sent link frame served more did sends has here taken tells session lost gone) there =
    absurd (none_among number (subst (Among number) (gone_held t doing number more gone) there))
kind_held t client place doing step _ number (HasLost connection link did has here shut bare) there = absurd (none_among number there)

pub began_held : (t : Traced) (doing : Doing) {own : _} (steps began : List Step) → Begins t own doing steps began → held_in began ≡ []
began_held t doing steps _ (WasThere now) = refl
began_held t doing _ _ (BeginsNow request now next same) = refl

-- each is told
pub held_told : (setting : Setting) (client place : ℕ) (request : Request) (tellings : List Telling) (steps : List Step) (number : ℕ) → TellsRequest setting client place request tellings steps → Among number (held_in steps)
    → list_any (λ step. is_had number step.did) (steps_in_tellings tellings) ≡ true
held_told setting client place request _ _ number NoneYet there = absurd (none_among number there)
held_told setting client place request _ _ number (OneMore tellings steps one was s) there =
    by (or_cases (list_any (λ other. other == number) (held_in steps)) (list_any (λ other. other == number) (held_in one.acts)) split) (held_told setting client place request tellings steps number was)
  where
    had : StepTold → Bool
    had step = is_had number step.did

    split : (list_any (λ other. other == number) (held_in steps) || list_any (λ other. other == number) (held_in one.acts)) ≡ true
    split =
        sym (ap (list_any (λ other. other == number)) (filter_map-append (λ (step : Step). brought step.done.input) steps one.acts) ∙ list_any-append (λ other. other == number) (held_in steps) (held_in one.acts)) ∙ there

    whole : (list_any (λ step. is_had number step.did) (steps_in_tellings tellings) || (is_had number one.step.did || false)) ≡ true → list_any (λ step. is_had number step.did) (steps_in_tellings (tellings ++ one ∷ [])) ≡ true
    whole is =
        ap (list_any (λ step. is_had number step.did)) (map-append (λ (x : Telling). x.step) tellings (one ∷ []))
        ∙ (list_any-append (λ step. is_had number step.did) (steps_in_tellings tellings) (one.step ∷ []) ∙ is)

    acts_held : Among number (held_in one.acts) → Among number (held_in s.acts)
    acts_held its =
        subst (λ (numbers : List ℕ). Among number (numbers ++ held_in s.acts)) (began_held s.t s.doing steps s.began s.begins)
        (subst (Among number) (filter_map-append (λ (step : Step). brought step.done.input) s.began s.acts) (subst (λ (acts : List Step). Among number (held_in acts)) s.all its))

    by : Among number (held_in steps) ⊎ Among number (held_in one.acts) → (Among number (held_in steps) → list_any (λ step. is_had number step.did) (steps_in_tellings tellings) ≡ true) → list_any (λ step. is_had number step.did) (steps_in_tellings (tellings ++ one ∷ [])) ≡ true
    by (inl before) rest = whole (or_left (list_any (λ step. is_had number step.did) (steps_in_tellings tellings)) (is_had number one.step.did || false) (rest before))
    by (inr its) rest =
        whole (or_right (list_any (λ step. is_had number step.did) (steps_in_tellings tellings)) (is_had number one.step.did || false)
        (or_left (is_had number one.step.did) false (kind_held s.t client place s.doing one.step s.acts number s.kind (acts_held its))))

-- whatever their order
pub any_reverse : (test : StepTold → Bool) (steps : List StepTold) → list_any test steps ≡ true → list_any test (reverse steps) ≡ true
any_reverse test [] is = is
any_reverse test (one ∷ steps) is = same (by (or_cases (test one) (list_any test steps) is) (any_reverse test steps))
  where
    same : (list_any test (reverse steps) || (test one || false)) ≡ true → list_any test (reverse (one ∷ steps)) ≡ true
    same both = ap (list_any test) (reverse_onto steps one []) ∙ (list_any-append test (reverse steps) (one ∷ []) ∙ both)

    by : (test one ≡ true) ⊎ (list_any test steps ≡ true) → (list_any test steps ≡ true → list_any test (reverse steps) ≡ true) → (list_any test (reverse steps) || (test one || false)) ≡ true
    by (inl here) rest = or_right (list_any test (reverse steps)) (test one || false) (or_left (test one) false here)
    by (inr there) rest = or_left (list_any test (reverse steps)) (test one || false) (rest there)
