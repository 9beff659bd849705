-- The steps that are told are of later and later events.
use Rattle.std.proofs.Common.{◌≡◌, subst, Bool, true, false, ℕ, ◌+◌, ◌<◌, ◌≤◌, List, [], ◌∷◌, ◌++◌, filter, Some, None, ◌⊎◌, inl, inr, if◌then◌else◌, arith}
use Rattle.std.specs.Prelude.{◌==◌}
use Rattle.std.specs.List.{list_any, last_or}
use Rattle.std.proofs.lemmas.Bool.{or_cases}
use Rattle.outage_schedule.specs.declared.item.Served.{Served}
use Rattle.outage_schedule.specs.declared.note.GoNote.TheVariants as go
use Rattle.outage_schedule.specs.declared.note.Note.{Note}
use Rattle.outage_schedule.specs.declared.note.Note.TheVariants as note
use Rattle.shown_clauses.specs.meaning.Fronts.{rest_of}
use Rattle.shown_clauses.specs.meaning.Happenings.{Happening, tick_after, is_up_to, items_at, happenings_from}
use Rattle.shown_clauses.specs.meaning.Links.{Seen, nothing_seen, after_happening}
use Rattle.shown_clauses.specs.meaning.Steps.{Step, steps_at, steps_from, steps_of}
use Rattle.shown_laws.specs.Telling.{steps_told}
use Rattle.shown_laws.proofs.events.Lookups.{eq_from}

-- each is of a later event than this
abbrev pub AllAfter : ℕ → List Step → Type 0
AllAfter event [] = Unit {0}
AllAfter event (step ∷ steps) = (event < step.event) × AllAfter event steps

-- and each is followed by later ones
abbrev pub Rise : List Step → Type 0
Rise [] = Unit {0}
Rise (step ∷ steps) = AllAfter step.event steps × Rise steps

pub earlier_after : (early late : ℕ) (steps : List Step) → early ≤ late → AllAfter late steps → AllAfter early steps
earlier_after early late [] less all = tt
earlier_after early late (step ∷ steps) less all = let first : late < step.event = all.0 in (omega (arith, less, first), earlier_after early late steps less all.1)

-- WHAT IS TOLD ------------------------------------------------------------------------------------

-- an event has one step at most, of its number
at_rise : (before : ℕ) (seen : Seen) (happening : Happening) (noted : Note) (more : List Step) → before < happening.event → AllAfter happening.event more → Rise more → Rise (steps_at seen happening noted ++ more) × AllAfter before (steps_at seen happening noted ++ more)
at_rise before seen happening (note.Go client go.Idle) more less after rise = (rise, earlier_after before happening.event more (omega (arith, less)) after)
at_rise before seen happening (note.Go client did) more less after rise = ((after, rise), (less, earlier_after before happening.event more (omega (arith, less)) after))
at_rise before seen happening noted more less after rise = (rise, earlier_after before happening.event more (omega (arith, less)) after)

from_rise : (before event tick : ℕ) (seen : Seen) (notes : List Note) (items : List Served) → before < event → Rise (steps_from seen (happenings_from event tick notes items)) × AllAfter before (steps_from seen (happenings_from event tick notes items))
from_rise before event tick seen [] items less = (tt, tt)
from_rise before event tick seen (first ∷ notes) items less =
    let happening : Happening = record { event = event; tick = tick; noted = first; items = items_at event items } in
    let next : event < event + 1 = omega arith in
    let rest = from_rise event (event + 1) (tick_after tick first) (after_happening seen happening) notes (rest_of (is_up_to event) items) next in
    at_rise before seen happening first (steps_from (after_happening seen happening) (happenings_from (event + 1) (tick_after tick first) notes (rest_of (is_up_to event) items))) less rest.1 rest.0

filter_after : (event : ℕ) (test : Step → Bool) (steps : List Step) → AllAfter event steps → AllAfter event (filter test steps)
filter_after event test [] all = tt
filter_after event test (step ∷ steps) all = by (test step) (filter_after event test steps all.1)
  where
    by : (is : Bool) → AllAfter event (filter test steps) → AllAfter event (if is then step ∷ filter test steps else filter test steps)
    by true rest = (all.0, rest)
    by false rest = rest

filter_rise : (test : Step → Bool) (steps : List Step) → Rise steps → Rise (filter test steps)
filter_rise test [] rise = tt
filter_rise test (step ∷ steps) rise = by (test step) (filter_rise test steps rise.1)
  where
    by : (is : Bool) → Rise (filter test steps) → Rise (if is then step ∷ filter test steps else filter test steps)
    by true rest = (filter_after step.event test steps rise.0, rest)
    by false rest = rest

-- of all clients
pub all_rise : (notes : List Note) (items : List Served) → Rise (steps_told notes items)
all_rise notes items = let first : 0 < 1 = omega arith in (from_rise 0 1 0 nothing_seen notes items first).0

-- and of each
pub told_rise : (notes : List Note) (items : List Served) (client : ℕ) → Rise (steps_of client (steps_told notes items))
told_rise notes items client = filter_rise (λ step. step.client == client) (steps_told notes items) (all_rise notes items)

-- WHERE AN EVENT IS -------------------------------------------------------------------------------

abbrev pub is_of : ℕ → Step → Bool
is_of event step = step.event == event

after_any : (late event : ℕ) (steps : List Step) → AllAfter late steps → list_any (is_of event) steps ≡ true → late < event
after_any late event [] all any = absurd (let none : ⊥ = cc in none)
after_any late event (step ∷ steps) all any = by (or_cases (is_of event step) (list_any (is_of event) steps) any) (λ there. after_any late event steps all.1 there)
  where
    by : (is_of event step ≡ true) ⊎ (list_any (is_of event) steps ≡ true) → (list_any (is_of event) steps ≡ true → late < event) → late < event
    by (inl here) rest = let same : step.event ≡ event = eq_from step.event event here in let later : late < step.event = all.0 in omega (arith, same, later)
    by (inr there) rest = rest there

after_behind : (event : ℕ) (before steps : List Step) → AllAfter event (before ++ steps) → AllAfter event steps
after_behind event [] steps all = all
after_behind event (step ∷ before) steps all = after_behind event before steps all.1

pub rise_behind : (before steps : List Step) → Rise (before ++ steps) → Rise steps
rise_behind [] steps rise = rise
rise_behind (step ∷ before) steps rise = rise_behind before steps rise.1

-- what comes first is earlier
pub front_before : (before : List Step) (first : Step) (steps : List Step) (event : ℕ) → Rise (before ++ first ∷ steps) → list_any (is_of event) before ≡ true → event < first.event
front_before [] first steps event rise any = absurd (let none : ⊥ = cc in none)
front_before (step ∷ before) first steps event rise any = by (or_cases (is_of event step) (list_any (is_of event) before) any) (λ there. front_before before first steps event rise.1 there)
  where
    by : (is_of event step ≡ true) ⊎ (list_any (is_of event) before ≡ true) → (list_any (is_of event) before ≡ true → event < first.event) → event < first.event
    by (inl here) rest = let same : step.event ≡ event = eq_from step.event event here in let later : step.event < first.event = (after_behind step.event before (first ∷ steps) rise.0).0 in omega (arith, same, later)
    by (inr there) rest = rest there

-- what comes behind is later
pub last_before : (steps : List Step) (last : Step) (behind : List Step) (event : ℕ) → last_or None steps ≡ Some last → Rise (steps ++ behind) → list_any (is_of event) behind ≡ true → last.event < event
last_before [] last behind event is rise any = absurd (let none : ⊥ = cc in none)
last_before (step ∷ []) last behind event is rise any = let same : step ≡ last = cc in subst (λ (one : Step). one.event < event) same (after_any step.event event behind rise.0 any)
last_before (step ∷ next ∷ steps) last behind event is rise any = last_before (next ∷ steps) last behind event is rise.1 any

-- no event is in both
pub never_both : (steps behind : List Step) (event : ℕ) → Rise (steps ++ behind) → list_any (is_of event) steps ≡ true → list_any (is_of event) behind ≡ true → ⊥
never_both [] behind event rise any also = let none : ⊥ = cc in none
never_both (step ∷ steps) behind event rise any also = by (or_cases (is_of event step) (list_any (is_of event) steps) any) (λ there. never_both steps behind event rise.1 there also)
  where
    by : (is_of event step ≡ true) ⊎ (list_any (is_of event) steps ≡ true) → (list_any (is_of event) steps ≡ true → ⊥) → ⊥
    by (inl here) rest =
        let same : step.event ≡ event = eq_from step.event event here in
        let later : step.event < event = after_any step.event event behind (after_behind step.event steps behind rise.0) also in
        omega (arith, same, later)
    by (inr there) rest = rest there
