-- Each step that is noted to take a reply is told with the reply.
use Rattle.std.proofs.Common.{◌≡◌, refl, ap, ◌∙◌, Bool, true, false, ℕ, List, [], ◌∷◌, ◌++◌, IsTrue}
use Rattle.std.specs.Prelude.{is_some}
use Rattle.std.proofs.lemmas.Bool.{and_from}
use Rattle.std.proofs.lemmas.List.Folds.{list_all-append}
use Rattle.outage_schedule.specs.declared.document.Document.{Document}
use Rattle.outage_schedule.specs.declared.event.Event.{Event}
use Rattle.outage_schedule.specs.declared.item.Served.{Served}
use Rattle.outage_schedule.specs.declared.note.GoNote.{GoNote}
use Rattle.outage_schedule.specs.declared.note.Note.{Note}
use Rattle.server_model.specs.Seen.{Seen}
use Rattle.shown_clauses.specs.meaning.Steps.{Step as StepTold}
use Rattle.shown_clauses.specs.meaning.Whole.{takes, took_it, are_taken}
use Rattle.world_model.specs.meaning.Clients.{Step, Doing}
use Rattle.world_model.specs.meaning.Finishing.{Place}
use Rattle.invariant_laws.specs.Invariant.{Invariant}
use Rattle.invariant_laws.specs.KeptLaws.{RunsKeepInvariant, FinishesKeepInvariant}
use Rattle.world_model.specs.OneEvent.{OneEvent}
use Rattle.world_model.specs.Reached.{Reached, Begins, GoesOn, IsFinishing, Scheduled, Finishes}
use Rattle.world_model.specs.records.Ready.{all_requests_right}
use Rattle.world_model.specs.Traced.{Traced}
use Rattle.shown_laws.specs.ClientSteps.{TellsKind, Rested, FoundNone, Waited, WasLent, HasOpened, HasFailed, HasTaken, HasLost}
use Rattle.shown_laws.specs.Closing.{AllUnclosed, RunsLeaveUnclosed, FinishesLeaveUnclosed}
use Rattle.shown_laws.specs.ConnectionLaws.{AreTold, RunsTellConnections, FinishesTellConnections}
use Rattle.shown_laws.specs.PartsTold.{RepliesAreTaken}
use Rattle.shown_laws.specs.Telling.{seen_told, steps_told}
use Rattle.shown_laws.proofs.steps.ClientsTold.{clients_on}
use Rattle.shown_laws.proofs.events.Clock.{HasCome, reached_come, finishing_come}
use Rattle.shown_laws.proofs.steps.StepsTold.{told_step}

-- ONE STEP ----------------------------------------------------------------------------------------

abbrev took : StepTold → Bool
took step = took_it (takes step.did) step

by_note : (step : StepTold) (did : GoNote) → step.did ≡ did → takes did ≡ false → took step ≡ true
by_note step did is none = ap (λ (test : Bool). took_it test step) (ap takes is ∙ none)

kind_took : (t : Traced) (client place : ℕ) (doing : Doing) (step : StepTold) (acts : List Step) → TellsKind t client place doing step acts → took step ≡ true
kind_took t client place doing step _ (Rested did early bare) = by_note step _ did refl
kind_took t client place doing step _ (FoundNone did frame bare) = by_note step _ did refl
kind_took t client place doing step _ (Waited did begun bare) = by_note step _ did refl
kind_took t client place doing step _ (WasLent connection link ltxid did begun there held taken its session lost) = by_note step _ did refl
kind_took t client place doing step _ (HasOpened connection did next begun bare) = by_note step _ did refl
kind_took t client place doing step _ (HasFailed did begun bare) = by_note step _ did refl
kind_took t client place doing step _ (HasLost connection link did has there ended bare) = by_note step _ did refl
kind_took t client place doing step _ (HasTaken connection sent link frame served more did sends has there taken reply session lost gone) =
    ap (λ (test : Bool). took_it test step) (ap takes did) ∙ ap is_some taken

all_took : (told more : List StepTold) → are_taken told ≡ true → are_taken more ≡ true → are_taken (told ++ more) ≡ true
all_took told more is also = list_all-append took told more ∙ and_from (are_taken told) (are_taken more) is also

-- EVENTS ------------------------------------------------------------------------------------------

module _ (before after : Seen) (old new : Traced) (event : Event) (note : Note) (notes : List Note) (items more : List Served) (one : OneEvent before old event note more [] after new) (come : HasCome notes items old.machine) (inv : Invariant old) (are : AreTold notes items old) (unclosed : AllUnclosed old.machine) where
  took_on : are_taken (steps_told notes items) ≡ true → are_taken (steps_told (notes ++ note ∷ []) (items ++ more)) ≡ true
  took_on was =
      clients_on (λ setting clients told. are_taken told ≡ true) before after old new event note notes items more one come inv are unclosed was
      (λ client did n acts.
      all_took (steps_told notes items) (told_step old (seen_told notes items) client did ∷ []) was
      (and_from (took (told_step old (seen_told notes items) client did)) true (kind_took old client _ acts.doing (told_step old (seen_told notes items) client did) acts.acts acts.tells) refl))

-- RUNS --------------------------------------------------------------------------------------------

module _ (kept : RunsKeepInvariant) (tell : RunsTellConnections) (leave : RunsLeaveUnclosed) (document : Document) (right : IsTrue (all_requests_right document)) where
  reached_took : (events : List Event) (notes : List Note) (items : List Served) (seen : Seen) (t : Traced) → Reached document events notes items seen t → are_taken (steps_told notes items) ≡ true
  reached_took _ _ _ _ _ (Begins seen start history horizon coupled) = refl
  reached_took _ _ _ _ _ (GoesOn events notes items more before after old new event note reached one forgets) =
      took_on before after old new event note notes items more one (reached_come document events notes items before old reached) (kept document events notes items before old right reached)
      (tell document events notes items before old right reached) (leave document events notes items before old right reached) (reached_took events notes items before old reached)

  finishing_took : FinishesKeepInvariant → FinishesTellConnections → FinishesLeaveUnclosed → (place : Place) (notes : List Note) (items : List Served) (seen : Seen) (t : Traced) → IsFinishing document place notes items seen t → are_taken (steps_told notes items) ≡ true
  finishing_took all told left _ _ _ _ _ (Scheduled notes items seen t reached) = reached_took document.schedule notes items seen t reached
  finishing_took all told left _ _ _ _ _ (Finishes place later notes items more before after old new event note finishing next one forgets) =
      took_on before after old new event note notes items more one (finishing_come document place notes items before old finishing) (all document place notes items before old right finishing)
      (told document place notes items before old right finishing) (left document place notes items before old right finishing) (finishing_took all told left place notes items before old finishing)

pub replies_taken : RunsKeepInvariant → FinishesKeepInvariant → RunsTellConnections → FinishesTellConnections → RunsLeaveUnclosed → FinishesLeaveUnclosed → RepliesAreTaken
replies_taken kept all tell told leave left document place notes items seen t right finishing = finishing_took kept tell leave document right all told left place notes items seen t finishing
