-- What a report of a run tells, event by event, beside the history of the service.
use Rattle.std.proofs.Common.{◌≡◌, refl, sym, ap, subst, ◌∙◌, true, ℕ, ◌+◌, ◌<◌, ◌||◌, length, List, [], ◌∷◌, ◌++◌, arith}
use Rattle.std.specs.Prelude.{◌==◌, nat_lt}
use Rattle.std.specs.List.{list_all}
use Rattle.std.proofs.lemmas.List.{length-append}
use Rattle.outage_schedule.specs.declared.document.Document.{Document}
use Rattle.outage_schedule.specs.declared.event.Event.{Event}
use Rattle.outage_schedule.specs.declared.item.Served.{Served}
use Rattle.outage_schedule.specs.declared.note.Note.{Note}
use Rattle.run_clauses.specs.meaning.Moments.{HappenedAt}
use Rattle.server_model.specs.Runs.{Happened}
use Rattle.server_model.specs.Seen.{Seen}
use Rattle.world_model.specs.meaning.Finishing.{Place}
use Rattle.world_model.specs.meaning.Machines.{Machine}
use Rattle.world_model.specs.OneEvent.{OneEvent}
use Rattle.world_model.specs.Reached.{Reached, Begins, GoesOn, IsFinishing, Scheduled, Finishes}
use Rattle.world_model.specs.Traced.{Traced}
use Rattle.world_model.proofs.Offered.{append_all, weaker_all, down_kept, opens_once, Followed, follow_happens, is_down_link, eq_from, lt_from, lt_to}
use Rattle.run_laws.proofs.EventsTell.{EventTells, HasTold, event_tells}
use Rattle.run_laws.proofs.MomentsGrow.{moments_of, event_moments, moments_more}

-- after so many events
pub data RunTells : ℕ → List HappenedAt → List Happened → Type 0 where
  NothingYet : RunTells 0 [] []
  TellsMore : (m : Machine) (moments more : List HappenedAt) (history happened : List Happened) → RunTells m.event moments history → EventTells m more happened → RunTells (m.event + 1) (moments ++ more) (history ++ happened)

-- as many events as notes, whose items they are, and what they tell
pub record HasCome (notes : List Note) (items : List Served) (seen : Seen) (m : Machine) : Type 0 where
  pub count : m.event ≡ length notes
  pub before : list_all (λ one. nat_lt one.event (length notes + 1)) items ≡ true
  pub tells : RunTells m.event (moments_of notes items) seen.history
  -- while the server is down no session lives
  pub down : (m.server.is_up || list_all is_down_link m.links) ≡ true

module _ (before after : Seen) (old new : Traced) (event : Event) (note : Note) (notes : List Note) (items more : List Served) (one : OneEvent before old event note more [] after new) (was : HasCome notes items before old.machine) where
  pub told : HasTold old.machine note more one.happened
  told = event_tells old.setting old.machine new.machine event note more one.happened one.follows one.did

  number : old.machine.event + 1 ≡ length notes + 1
  number = ap (λ (n : ℕ). n + 1) was.count

  count_now : length (notes ++ note ∷ []) ≡ length notes + 1
  count_now = length-append notes (note ∷ [])

  all_before : (all : ℕ) → all ≡ length notes + 1 → list_all (λ one. nat_lt one.event (all + 1)) (items ++ more) ≡ true
  all_before all same =
      append_all (λ (one : Served). nat_lt one.event (all + 1)) items more
      (weaker_all (λ (one : Served). nat_lt one.event (length notes + 1)) (λ (one : Served). nat_lt one.event (all + 1)) items
      (λ one below. let under : one.event < length notes + 1 = lt_from one.event (length notes + 1) below in lt_to one.event (all + 1) (omega (arith, under, same))) was.before)
      (weaker_all (λ (one : Served). one.event == old.machine.event + 1) (λ (one : Served). nat_lt one.event (all + 1)) more
      (λ one is. let at : one.event ≡ old.machine.event + 1 = eq_from one.event (old.machine.event + 1) is in lt_to one.event (all + 1) (omega (arith, at, number, same))) told.now)

  pub moments_now : moments_of (notes ++ note ∷ []) (items ++ more) ≡ moments_of notes items ++ event_moments (old.machine.event + 1) note more
  moments_now =
      moments_more notes note items more was.before (subst (λ (n : ℕ). list_all (λ (one : Served). one.event == n) more ≡ true) number told.now)
      ∙ ap (λ (n : ℕ). moments_of notes items ++ event_moments n note more) (sym number)

  pub come_on : HasCome (notes ++ note ∷ []) (items ++ more) after new.machine
  come_on =
      let next : new.machine.event ≡ old.machine.event + 1 = (opens_once old.setting old.machine new.machine event note more [] one.follows).0 in
      record {
        count = next ∙ (number ∙ sym count_now);
        before = all_before (length (notes ++ note ∷ [])) count_now;
        tells =
            subst (λ (n : ℕ). RunTells n (moments_of (notes ++ note ∷ []) (items ++ more)) after.history) (sym next)
            (subst (λ (moments : List HappenedAt). RunTells (old.machine.event + 1) moments after.history) (sym moments_now)
            (subst (RunTells (old.machine.event + 1) (moments_of notes items ++ event_moments (old.machine.event + 1) note more)) (sym one.history)
            (TellsMore old.machine (moments_of notes items) (event_moments (old.machine.event + 1) note more) before.history one.happened was.tells told.tells)));
        down =
            let by : Followed old.setting old.machine event note more [] new.machine = follow_happens old.setting old.machine event note more [] new.machine one.follows in
            down_kept old.setting old.machine more [] by.kind new.machine by.happens was.down;
      }

pub reached_come : (document : Document) (events : List Event) (notes : List Note) (items : List Served) (seen : Seen) (t : Traced) → Reached document events notes items seen t → HasCome notes items seen t.machine
reached_come document _ _ _ _ _ (Begins seen start history horizon coupled) = record { count = refl; before = refl; tells = subst (RunTells 0 []) (sym history) NothingYet; down = refl }
reached_come document _ _ _ _ _ (GoesOn events notes items more before after old new event note reached one forgets) = come_on before after old new event note notes items more one (reached_come document events notes items before old reached)

pub finishing_come : (document : Document) (place : Place) (notes : List Note) (items : List Served) (seen : Seen) (t : Traced) → IsFinishing document place notes items seen t → HasCome notes items seen t.machine
finishing_come document _ _ _ _ _ (Scheduled notes items seen t reached) = reached_come document document.schedule notes items seen t reached
finishing_come document _ _ _ _ _ (Finishes place later notes items more before after old new event note finishing next one forgets) =
    come_on before after old new event note notes items more one (finishing_come document place notes items before old finishing)

-- all that was told, with the whole history
pub run_tells : (document : Document) (place : Place) (notes : List Note) (items : List Served) (seen : Seen) (t : Traced) → IsFinishing document place notes items seen t → RunTells t.machine.event (moments_of notes items) seen.history
run_tells document place notes items seen t finishing = (finishing_come document place notes items seen t finishing).tells
