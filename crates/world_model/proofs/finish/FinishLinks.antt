-- What the finish does at the server and at connections leaves less of it: the opening, reaps,
-- frames that are served, and the tick.
use Rattle.std.proofs.Common.{◌≡◌, refl, sym, ap, subst, ◌∙◌, Bool, true, false, ℕ, ◌+◌, ◌*◌, ◌≤◌, ◌<◌, ◌&&◌, List, [], ◌∷◌, Option, Some, None, if◌then◌else◌, arith}
use Rattle.std.specs.Prelude.{◌==◌, option_map, option_and_then}
use Rattle.std.specs.Option.{option_map_or}
use Rattle.std.proofs.lemmas.Bool.{and_parts}
use Rattle.svc_values.specs.meaning.Same.{same_bool}
use Rattle.outage_schedule.specs.declared.event.Event.TheVariants as event
use Rattle.outage_schedule.specs.declared.note.Note.{Note}
use Rattle.outage_schedule.specs.declared.note.Note.TheVariants as note
use Rattle.outage_schedule.specs.declared.note.FrameName.{FrameName}
use Rattle.outage_schedule.specs.declared.item.Served.{Served}
use Rattle.world_model.specs.meaning.Settings.{Setting}
use Rattle.world_model.specs.meaning.Links.{changed}
use Rattle.world_model.specs.meaning.Machines.{Machine}
use Rattle.world_model.specs.meaning.Noting.{only_if, same_name, name_of}
use Rattle.world_model.specs.meaning.Matching.{Reaped, ServedOn}
use Rattle.world_model.specs.meaning.Walking.{leaving, by_kind, follow}
use Rattle.world_model.specs.meaning.Opening.{opened}
use Rattle.world_model.specs.meaning.Cutting.{has_orphan, reaped_link}
use Rattle.world_model.specs.meaning.Serving.{Front, front_at, is_ordinary, serves, after_served}
use Rattle.world_model.specs.meaning.Outside.{ticked}
use Rattle.world_model.proofs.events.Happened.{at_event}

-- NUMBERS -----------------------------------------------------------------------------------------

pub times_less : (a b size : ℕ) → a ≤ b → a * size ≤ b * size
times_less a b size less = grind arith

-- the rounds are no more, and less is left of this one
pub falls_so : (rounds fewer size work less : ℕ) → fewer ≤ rounds → less + 1 ≤ work → fewer * size + less < rounds * size + work
falls_so rounds fewer size work less most below = let times : fewer * size ≤ rounds * size = times_less fewer rounds size most in omega arith

-- a round less is left
pub falls_round : (rounds fewer count work place : ℕ) → fewer + 1 ≤ rounds → 1 ≤ place → fewer * (3 * count + 4) + ((3 * count + 3) + work) < rounds * (3 * count + 4) + (place + work)
falls_round rounds fewer count work place less some =
    let times : (fewer + 1) * (3 * count + 4) ≤ rounds * (3 * count + 4) = times_less (fewer + 1) rounds (3 * count + 4) less in
    let split : (fewer + 1) * (3 * count + 4) ≡ fewer * (3 * count + 4) + (3 * count + 4) = one_more in
    omega (arith, times, split)
  where
    one_more : (fewer + 1) * (3 * count + 4) ≡ fewer * (3 * count + 4) + (3 * count + 4)
    one_more = omega arith

-- EVENTS ------------------------------------------------------------------------------------------

pub leaves_is : (items left : List Served) (found : Option Machine) (n : Machine) → leaving items found ≡ Some (n, left) → found ≡ Some n
leaves_is items left None n e = absurd (let none : ⊥ = cc in none)
leaves_is items left (Some a) n e = ap (λ (one : Option (Machine × List Served)). option_map (λ (p : Machine × List Served). p.0) one) e

-- what the test let pass
only_one : (test : Bool) (a n : Machine) → only_if test a ≡ Some n → a ≡ n
only_one true a n e = let same : a ≡ n = cc in same
only_one false a n e = absurd (let none : ⊥ = cc in none)

module _ (setting : Setting) (m : Machine) (items left : List Served) (n : Machine) where
  pub up_is : (one : Note) → m.server.is_up ≡ false → follow setting m event.Up one items ≡ Some (n, left) → (incarnation : ℕ) × (record (at_event m) { server = opened m.server incarnation } ≡ n)
  up_is (note.Up None) down e =
      let found : only_if m.server.is_up (at_event m) ≡ Some n = leaves_is items left _ n e in
      absurd (let none : None ≡ Some n = ap (λ (b : Bool). only_if b (at_event m)) (sym down) ∙ found in let never : ⊥ = cc in never)
  up_is (note.Up (Some incarnation)) down e = (incarnation, only_one _ _ n (leaves_is items left _ n e))
  up_is one down e = absurd (let none : ⊥ = cc in none)

  pub reap_is : (number : ℕ) (one : Note) → has_orphan m.links number ≡ true → follow setting m (event.Reap number) one items ≡ Some (n, left) → record (at_event m) { links = changed reaped_link m.links number } ≡ n
  reap_is number (note.Reap named reaped) orphan e = by (named == number) e
    where
      reaps : (was : Bool) → only_if (same_bool was (has_orphan m.links number)) (if was then record (at_event m) { links = changed reaped_link m.links number } else at_event m) ≡ Some n
          → record (at_event m) { links = changed reaped_link m.links number } ≡ n
      reaps true e = only_one _ _ n e
      reaps false e = absurd (let none : None ≡ Some n = ap (λ (b : Bool). only_if (same_bool false b) (at_event m)) (sym orphan) ∙ e in let never : ⊥ = cc in never)

      by : (same : Bool) → option_and_then (by_kind setting (at_event m) items) (only_if same (Reaped number reaped)) ≡ Some (n, left) → record (at_event m) { links = changed reaped_link m.links number } ≡ n
      by true e = reaps reaped (leaves_is items left _ n e)
      by false e = absurd (let none : ⊥ = cc in none)
  reap_is number one orphan e = absurd (let none : ⊥ = cc in none)

  pub tick_is : (one : Note) → follow setting m event.Tick one items ≡ Some (n, left) → ticked (at_event m) ≡ n
  tick_is note.Tick e = ap (λ (found : Option (Machine × List Served)). option_map_or (λ (p : Machine × List Served). p.0) found m) e
  tick_is one e = absurd (let none : ⊥ = cc in none)

  -- the frame that was served, with its item
  pub record WasServed (number : ℕ) (front : Front) : Type 0 where
    pub served : Served
    pub ordinary : is_ordinary (at_event m) front served ≡ true
    pub becomes : after_served (at_event m) number front served ≡ n

  pub serve_is : (number : ℕ) (one : Note) (front : Front) → front_at m.links number ≡ Some front → follow setting m (event.Serve number) one items ≡ Some (n, left) → WasServed number front
  serve_is number (note.Serve named frame) front is e = by (named == number) e
    where
      tested : (test : Bool) (served : Served) (more : List Served) → only_if {A = Machine × List Served} test (after_served (at_event m) number front served, more) ≡ Some (n, left) → (test ≡ true) × (after_served (at_event m) number front served ≡ n)
      tested true served more e = (refl, ap (λ (found : Option (Machine × List Served)). option_map_or (λ (p : Machine × List Served). p.0) found n) e)
      tested false served more e = absurd (let none : ⊥ = cc in none)

      here : (name : Option FrameName) (all : List Served) → serves (at_event m) number name all (Some front) ≡ Some (n, left) → WasServed number front
      here None all e = absurd (let none : ⊥ = cc in none)
      here (Some name) [] e = absurd (let none : ⊥ = cc in none)
      here (Some name) (served ∷ more) e =
          let both = tested (same_name name (name_of front.first.frame) && is_ordinary (at_event m) front served) served more e in
          record { served = served; ordinary = (and_parts (same_name name (name_of front.first.frame)) (is_ordinary (at_event m) front served) both.0).1; becomes = both.1 }

      by : (same : Bool) → option_and_then (by_kind setting (at_event m) items) (only_if same (ServedOn number frame)) ≡ Some (n, left) → WasServed number front
      by true e = here frame items (subst (λ (found : Option Front). serves (at_event m) number frame items found ≡ Some (n, left)) is e)
      by false e = absurd (let none : ⊥ = cc in none)
  serve_is number one front is e = absurd (let none : ⊥ = cc in none)
