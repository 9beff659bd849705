-- The finish of a run: event by event, and how it ends.
use Rattle.std.proofs.Common.{◌≡◌, refl, sym, ap, subst, ◌∙◌, arith, ℕ, ◌+◌, ◌≤◌, ◌<◌, ◌^◌, List, [], ◌∷◌, ◌++◌, length, Some, None}
use Rattle.std.proofs.lemmas.List.{length-append, length-map}
use Rattle.request_bounds.specs.meaning.Rules.{Rules}
use Rattle.outage_schedule.specs.declared.document.Client.{Client as Script}
use Rattle.outage_schedule.specs.declared.document.Document.{Document}
use Rattle.outage_schedule.specs.declared.document.Request.{Request}
use Rattle.outage_schedule.specs.declared.event.Event.{Event}
use Rattle.outage_schedule.specs.declared.item.Served.{Served}
use Rattle.outage_schedule.specs.declared.note.Note.{Note}
use Rattle.run_clauses.specs.meaning.Horizons.{Openings, wanted_horizon}
use Rattle.server_model.specs.Seen.{Seen}
use Rattle.world_model.specs.FinishEnds.{CanFinish, FinishBegins, FinishFalls, FinishGoesOn}
use Rattle.world_model.specs.meaning.Finishing.{Place, AtServer, next_finish}
use Rattle.world_model.specs.Forgets.{Forgets, openings_of, first_of}
use Rattle.world_model.specs.Reached.{IsFinishing, Finishes as FinishesBy}
use Rattle.world_model.specs.Remaining.{remaining}
use Rattle.world_model.specs.Traced.{Traced}
use Rattle.world_run.specs.Places.{IsShort, Finishes}
use Rattle.world_run.specs.Running.{Parts, StandBeside, Stands, StandsSomewhere, GoesOn, MakesOne}

module _ (S R : Type 0) (sees : S → Seen → Type 0) (rules : R → Rules) (scripts : List Script) where
  -- So far has the finish come in so many events, from where it began.
  pub record HasCome (retention : ℕ) (first : Openings) (place : Place) (steps : ℕ) (before now : Parts S R) (seen_before : Seen) (start : Traced) : Type 0 where
    pub seen : Seen
    pub traced : Traced
    pub stands : Stands S R sees rules scripts retention first now seen traced
    pub can : CanFinish traced place
    pub left : remaining traced.setting traced.machine place + steps ≤ remaining start.setting start.machine AtServer
    pub few : length now.notes ≤ 100000 + steps
    pub finishing : (document : Document) → retention ≡ document.service.retention → first ≡ first_of document → IsFinishing document AtServer before.notes before.served seen_before start → IsFinishing document place now.notes now.served seen traced

  -- wherever it began
  abbrev pub Comes : Place → ℕ → Parts S R → Parts S R → Type 0
  Comes place steps before now = (retention : ℕ) (first : Openings) (seen : Seen) (t : Traced) → Stands S R sees rules scripts retention first before seen t → HasCome retention first place steps before now seen t

  pub comes_first : FinishBegins → (before : Parts S R) → length before.notes ≤ 100000 → Comes AtServer 0 before before
  comes_first begins before few retention first seen t stands = record {
    seen = seen;
    traced = t;
    stands = stands;
    can = begins t stands.beside.place.orderly;
    left = omega arith;
    few = omega (arith, few);
    finishing = λ document kept began is. is;
  }

  module _ (place : Place) (steps : ℕ) (before now : Parts S R) (comes : Comes place steps before now) where
    -- THE NEXT EVENT ------------------------------------------------------------------------------

    module _ (falls : FinishFalls) (goes_on : FinishGoesOn) (event : Event) (next : Place) (after : Parts S R) (is_next : (seen : Seen) (t : Traced) → StandBeside S R sees rules scripts now seen t → Some (event, next) ≡ next_finish t.machine place)
        (makes : MakesOne S R sees rules scripts event now after) where
      one_further : (retention : ℕ) (first : Openings) (seen : Seen) (t : Traced) (come : HasCome retention first place steps before now seen t) → GoesOn S R sees rules scripts retention first event now after come.seen come.traced
          → HasCome retention first next (steps + 1) before after seen t
      one_further retention first seen t come step =
          let is : next_finish come.traced.machine place ≡ Some (event, next) = sym (is_next come.seen come.traced come.stands.beside) in
          record {
            seen = step.seen_later;
            traced = step.later;
            stands = step.stands;
            can = goes_on come.seen step.seen_later come.traced step.later event step.note step.items [] place next step.made come.can is;
            left =
                let less = falls come.seen step.seen_later come.traced step.later event step.note step.items [] place next step.made come.can is in
                let left = come.left in
                omega (arith, less, left);
            few =
                let many : length after.notes ≡ length now.notes + 1 = ap (λ (notes : List Note). length notes) step.notes ∙ length-append now.notes (step.note ∷ []) in
                let few = come.few in
                omega (arith, many, few);
            finishing = λ document kept began so.
                subst (λ (notes : List Note). IsFinishing document next notes after.served step.seen_later step.later) (sym step.notes)
                (subst (λ (served : List Served). IsFinishing document next (now.notes ++ step.note ∷ []) served step.seen_later step.later) (sym step.served)
                (FinishesBy place next now.notes now.served step.items come.seen step.seen_later come.traced step.later event step.note (come.finishing document kept began so) is step.made
                (subst (λ (first : Openings). Forgets (wanted_horizon document.service.retention (openings_of first now.notes)) step.note come.seen.state.store step.seen_later.state.store) began
                (subst (λ (retention : ℕ). Forgets (wanted_horizon retention (openings_of first now.notes)) step.note come.seen.state.store step.seen_later.state.store) kept step.forgets))));
          }

      pub comes_further : Comes next (steps + 1) before after
      comes_further retention first seen t stands =
          let come = comes retention first seen t stands in
          one_further retention first seen t come (makes retention first come.seen come.traced come.stands)

    -- THE END -------------------------------------------------------------------------------------

    pub comes_to_end : ((seen : Seen) (t : Traced) → StandBeside S R sees rules scripts now seen t → None ≡ next_finish t.machine place) → Finishes S R sees rules scripts before now
    comes_to_end is_last document seen t stands so =
        let come = comes document.service.retention (first_of document) seen t stands in
        record {
          seen = come.seen;
          traced = come.traced;
          stands = come.stands;
          run = record { place = place; finishing = come.finishing document refl refl so; over = sym (is_last come.seen come.traced come.stands.beside) };
        }

    -- WHEREVER IT IS ------------------------------------------------------------------------------

    module _ (there : IsShort S R sees rules scripts before) where
      come_there : HasCome there.retention there.first place steps before now there.seen there.traced
      come_there = comes there.retention there.first there.seen there.traced there.stands

      pub somewhere : StandsSomewhere S R sees rules scripts now
      somewhere = record { retention = there.retention; first = there.first; seen = come_there.seen; traced = come_there.traced; stands = come_there.stands }

      -- few events are made
      pub few_steps : steps ≤ 2 ^ 44
      few_steps = let left = come_there.left in let short = there.short in omega (arith, left, short)

      pub few_notes : length now.notes < 2 ^ 45
      few_notes = let few = come_there.few in let steps_few = few_steps in omega (arith, few, steps_few)

      -- as many clients as scripts
      pub each_scripted : length now.clients ≡ length scripts
      each_scripted = come_there.stands.beside.stand.many ∙ (ap (λ (all : List (List Request)). length all) come_there.stands.beside.scripted ∙ length-map scripts (λ (client : Script). client.requests))
