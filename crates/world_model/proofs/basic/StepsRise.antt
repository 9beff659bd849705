-- The steps of each request are of events and ticks so far, in order.
use Rattle.std.proofs.Common.{◌≡◌, sym, subst, ◌∙◌, Bool, true, ℕ, ◌≤◌, ◌&&◌, List, [], ◌∷◌, ◌++◌, map, arith}
use Rattle.std.specs.Prelude.{nat_le}
use Rattle.std.specs.List.{list_all}
use Rattle.std.proofs.lemmas.Bool.{and_parts, and_from}
use Rattle.std.proofs.lemmas.List.{map-append}
use Rattle.std.proofs.lemmas.List.Folds.{list_all-map}
use Rattle.world_model.specs.meaning.Clients.{Step}
use Rattle.world_model.specs.Sames.{rise}
use Rattle.world_model.proofs.events.Tests.{le_from, le_to, pair_more}
use Rattle.world_model.proofs.events.AllLists.{weaker_all, append_all, one_all}

abbrev event_of : Step → ℕ
event_of step = step.event

abbrev tick_of : Step → ℕ
tick_of step = step.done.now

abbrev is_so_far : ℕ → ℕ → Step → Bool
is_so_far event tick step = nat_le step.event event && nat_le step.done.now tick

abbrev pub rises_at : ℕ → ℕ → List Step → Bool
rises_at event tick steps = list_all (is_so_far event tick) steps && (rise (map event_of steps) && rise (map tick_of steps))

so_far_later : (event tick later_event later_tick : ℕ) → event ≤ later_event → tick ≤ later_tick → (step : Step) → is_so_far event tick step ≡ true → is_so_far later_event later_tick step ≡ true
so_far_later event tick later_event later_tick one other step here =
    let parts = and_parts (nat_le step.event event) (nat_le step.done.now tick) here in
    let first : step.event ≤ event = le_from step.event event parts.0 in
    let second : step.done.now ≤ tick = le_from step.done.now tick parts.1 in
    and_from (nat_le step.event later_event) (nat_le step.done.now later_tick) (le_to step.event later_event (omega arith)) (le_to step.done.now later_tick (omega arith))

pub rises_later : (event tick later_event later_tick : ℕ) → event ≤ later_event → tick ≤ later_tick → (steps : List Step) → rises_at event tick steps ≡ true → rises_at later_event later_tick steps ≡ true
rises_later event tick later_event later_tick one other steps here =
    let parts = and_parts (list_all (is_so_far event tick) steps) (rise (map event_of steps) && rise (map tick_of steps)) here in
    and_from (list_all (is_so_far later_event later_tick) steps) (rise (map event_of steps) && rise (map tick_of steps))
    (weaker_all (is_so_far event tick) (is_so_far later_event later_tick) steps (so_far_later event tick later_event later_tick one other) parts.0) parts.1

rise_more : (part : Step → ℕ) (steps : List Step) (step : Step) → rise (map part steps) ≡ true → list_all (λ one. nat_le (part one) (part step)) steps ≡ true → rise (map part (steps ++ step ∷ [])) ≡ true
rise_more part steps step rises below =
    subst (λ (numbers : List ℕ). rise numbers ≡ true) (sym (map-append part steps (step ∷ [])))
    (pair_more nat_le (map part steps) (part step) rises (list_all-map (λ number. nat_le number (part step)) part steps ∙ below))

-- one step more, now
pub rises_more : (event tick : ℕ) (steps : List Step) (step : Step) → step.event ≡ event → step.done.now ≡ tick → rises_at event tick steps ≡ true → rises_at event tick (steps ++ step ∷ []) ≡ true
rises_more event tick steps step one other here =
    let parts = and_parts (list_all (is_so_far event tick) steps) (rise (map event_of steps) && rise (map tick_of steps)) here in
    let rises = and_parts (rise (map event_of steps)) (rise (map tick_of steps)) parts.1 in
    and_from (list_all (is_so_far event tick) (steps ++ step ∷ [])) (rise (map event_of (steps ++ step ∷ [])) && rise (map tick_of (steps ++ step ∷ [])))
    (append_all (is_so_far event tick) steps (step ∷ []) parts.0
    (one_all (is_so_far event tick) step (and_from (nat_le step.event event) (nat_le step.done.now tick) (le_to step.event event (omega arith)) (le_to step.done.now tick (omega arith)))))
    (and_from (rise (map event_of (steps ++ step ∷ []))) (rise (map tick_of (steps ++ step ∷ [])))
    (rise_more event_of steps step rises.0
    (weaker_all (is_so_far event tick) (λ before. nat_le before.event step.event) steps
    (λ before is. let bound : before.event ≤ event = le_from before.event event (and_parts (nat_le before.event event) (nat_le before.done.now tick) is).0 in le_to before.event step.event (omega arith)) parts.0))
    (rise_more tick_of steps step rises.1
    (weaker_all (is_so_far event tick) (λ before. nat_le before.done.now step.done.now) steps
    (λ before is. let bound : before.done.now ≤ tick = le_from before.done.now tick (and_parts (nat_le before.event event) (nat_le before.done.now tick) is).1 in le_to before.done.now step.done.now (omega arith)) parts.0)))
