-- A step stands among others, and those that are told have an event each.
use Rattle.std.proofs.Common.{◌≡◌, refl, sym, ap, subst, ◌∙◌, Bool, true, false, ℕ, ◌<◌, List, [], ◌∷◌, ◌++◌, filter, ◌⊎◌, inl, inr, if◌then◌else◌, arith}
use Rattle.std.specs.List.{list_any}
use Rattle.std.proofs.lemmas.Bool.{or_cases}
use Rattle.shown_clauses.specs.meaning.Steps.{Step}
use Rattle.shown_laws.proofs.steps.ToldRise.{AllAfter, Rise}

abbrev pub IsAmong : {A : Type 0} → A → List A → Type 0
IsAmong step [] = ⊥
IsAmong step (first ∷ later) = (first ≡ step) ⊎ IsAmong step later

pub among_front : {A : Type 0} (step : A) (steps more : List A) → IsAmong step steps → IsAmong step (steps ++ more)
among_front step [] more is = absurd is
among_front step (first ∷ steps) more (inl here) = inl here
among_front step (first ∷ steps) more (inr there) = inr (among_front step steps more there)

pub among_behind : {A : Type 0} (step : A) (before steps : List A) → IsAmong step steps → IsAmong step (before ++ steps)
among_behind step [] steps is = is
among_behind step (first ∷ before) steps is = inr (among_behind step before steps is)

pub among_either : {A : Type 0} (step : A) (steps more : List A) → IsAmong step (steps ++ more) → IsAmong step steps ⊎ IsAmong step more
among_either step [] more is = inr is
among_either step (first ∷ steps) more (inl here) = inl (inl here)
among_either step (first ∷ steps) more (inr there) = by (among_either step steps more there)
  where
    by : IsAmong step steps ⊎ IsAmong step more → IsAmong step (first ∷ steps) ⊎ IsAmong step more
    by (inl front) = inl (inr front)
    by (inr behind) = inr behind

-- those that meet a test
pub among_met : (test : Step → Bool) (step : Step) (steps : List Step) → IsAmong step steps → test step ≡ true → IsAmong step (filter test steps)
among_met test step [] is met = absurd is
among_met test step (first ∷ steps) (inl here) met = subst (λ (b : Bool). IsAmong step (if b then first ∷ filter test steps else filter test steps)) (sym (ap test here ∙ met)) (inl here)
among_met test step (first ∷ steps) (inr there) met = by (test first) (among_met test step steps there met)
  where
    by : (b : Bool) → IsAmong step (filter test steps) → IsAmong step (if b then first ∷ filter test steps else filter test steps)
    by true rest = inr rest
    by false rest = rest

pub met_among : (test : Step → Bool) (step : Step) (steps : List Step) → IsAmong step (filter test steps) → IsAmong step steps × (test step ≡ true)
met_among test step [] is = absurd is
met_among test step (first ∷ steps) is = by (test first) refl is (λ rest. met_among test step steps rest)
  where
    by : (b : Bool) → test first ≡ b → IsAmong step (if b then first ∷ filter test steps else filter test steps) → (IsAmong step (filter test steps) → IsAmong step steps × (test step ≡ true)) → IsAmong step (first ∷ steps) × (test step ≡ true)
    by true met (inl here) rest = (inl here, ap test (sym here) ∙ met)
    by true met (inr there) rest = let later = rest there in (inr later.0, later.1)
    by false met there rest = let later = rest there in (inr later.0, later.1)

-- one that meets a test
pub record AnAmong (test : Step → Bool) (steps : List Step) : Type 0 where
  pub step : Step
  pub among : IsAmong step steps
  pub met : test step ≡ true

pub any_among : (test : Step → Bool) (steps : List Step) → list_any test steps ≡ true → AnAmong test steps
any_among test [] any = absurd (let none : ⊥ = cc in none)
any_among test (first ∷ steps) any = by (or_cases (test first) (list_any test steps) any) (λ rest. any_among test steps rest)
  where
    by : (test first ≡ true) ⊎ (list_any test steps ≡ true) → (list_any test steps ≡ true → AnAmong test steps) → AnAmong test (first ∷ steps)
    by (inl here) rest = record { step = first; among = inl refl; met = here }
    by (inr there) rest = let later : AnAmong test steps = rest there in record { step = later.step; among = inr later.among; met = later.met }

-- BY THEIR EVENTS ---------------------------------------------------------------------------------

pub later_than : (event : ℕ) (step : Step) (steps : List Step) → AllAfter event steps → IsAmong step steps → event < step.event
later_than event step [] all is = absurd is
later_than event step (first ∷ steps) all (inl here) = subst (λ (s : Step). event < s.event) here all.0
later_than event step (first ∷ steps) all (inr there) = later_than event step steps all.1 there

-- an event has one step
pub one_of_event : (one other : Step) (steps : List Step) → Rise steps → IsAmong one steps → IsAmong other steps → one.event ≡ other.event → one ≡ other
one_of_event one other [] rise is also same = absurd is
one_of_event one other (first ∷ steps) rise (inl here) (inl there) same = sym here ∙ there
one_of_event one other (first ∷ steps) rise (inl here) (inr there) same =
    let later : first.event < other.event = later_than first.event other steps rise.0 there in
    let its : first.event ≡ one.event = ap (λ (s : Step). s.event) here in
    absurd (let none : ⊥ = omega (arith, later, its, same) in none)
one_of_event one other (first ∷ steps) rise (inr there) (inl here) same =
    let later : first.event < one.event = later_than first.event one steps rise.0 there in
    let its : first.event ≡ other.event = ap (λ (s : Step). s.event) here in
    absurd (let none : ⊥ = omega (arith, later, its, same) in none)
one_of_event one other (first ∷ steps) rise (inr there) (inr behind) same = one_of_event one other steps rise.1 there behind same
