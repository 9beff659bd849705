-- Where a run began, which is sound, that each state that it comes to is coupled with its service,
-- and that its finish goes on from its schedule.
use Rattle.std.proofs.Common.{◌≡◌, subst, ◌∙◌, List, [], ◌∷◌, ◌++◌}
use Rattle.outage_schedule.specs.declared.document.Document.{Document}
use Rattle.outage_schedule.specs.declared.event.Event.{Event}
use Rattle.outage_schedule.specs.declared.item.Served.{Served}
use Rattle.outage_schedule.specs.declared.note.Note.{Note}
use Rattle.run_clauses.specs.meaning.ServiceBase.{service_base}
use Rattle.server_model.specs.Base.{IsSound}
use Rattle.server_model.specs.Seen.{Seen}
use Rattle.world_model.specs.Coupled.{Coupled}
use Rattle.world_model.specs.meaning.Finishing.{Place}
use Rattle.world_model.specs.Reached.{Reached, Begins, GoesOn, IsFinishing, Scheduled, Finishes}
use Rattle.world_model.specs.Traced.{Traced}

pub reached_start : (document : Document) (events : List Event) (notes : List Note) (items : List Served) (seen : Seen) (t : Traced) → Reached document events notes items seen t → seen.start ≡ service_base document
reached_start document _ _ _ _ _ (Begins seen start history horizon coupled) = start
reached_start document _ _ _ _ _ (GoesOn events notes items more before after old new event note reached one forgets) = one.start ∙ reached_start document events notes items before old reached

pub finishing_start : (document : Document) (place : Place) (notes : List Note) (items : List Served) (seen : Seen) (t : Traced) → IsFinishing document place notes items seen t → seen.start ≡ service_base document
finishing_start document _ _ _ _ _ (Scheduled notes items seen t reached) = reached_start document document.schedule notes items seen t reached
finishing_start document _ _ _ _ _ (Finishes place later notes items more before after old new event note finishing next one forgets) = one.start ∙ finishing_start document place notes items before old finishing

pub reached_coupled : (document : Document) (events : List Event) (notes : List Note) (items : List Served) (seen : Seen) (t : Traced) → Reached document events notes items seen t → Coupled seen t
reached_coupled document _ _ _ _ _ (Begins seen start history horizon coupled) = coupled
reached_coupled document _ _ _ _ _ (GoesOn events notes items more before after old new event note reached one forgets) = one.coupled_after

pub finishing_coupled : (document : Document) (place : Place) (notes : List Note) (items : List Served) (seen : Seen) (t : Traced) → IsFinishing document place notes items seen t → Coupled seen t
finishing_coupled document _ _ _ _ _ (Scheduled notes items seen t reached) = reached_coupled document document.schedule notes items seen t reached
finishing_coupled document _ _ _ _ _ (Finishes place later notes items more before after old new event note finishing next one forgets) = one.coupled_after

reached_sound : (document : Document) (events : List Event) (notes : List Note) (items : List Served) (seen : Seen) (t : Traced) → Reached document events notes items seen t → IsSound (service_base document)
reached_sound document _ _ _ _ _ (Begins seen start history horizon coupled) = subst IsSound start coupled.sound
reached_sound document _ _ _ _ _ (GoesOn events notes items more before after old new event note reached one forgets) = reached_sound document events notes items before old reached

pub finishing_sound : (document : Document) (place : Place) (notes : List Note) (items : List Served) (seen : Seen) (t : Traced) → IsFinishing document place notes items seen t → IsSound (service_base document)
finishing_sound document _ _ _ _ _ (Scheduled notes items seen t reached) = reached_sound document document.schedule notes items seen t reached
finishing_sound document _ _ _ _ _ (Finishes place later notes items more before after old new event note finishing next one forgets) = finishing_sound document place notes items before old finishing

-- The finish goes on from the schedule, event by event, so its end is reached by one list of
-- events.
pub finishing_reached : (document : Document) (place : Place) (notes : List Note) (items : List Served) (seen : Seen) (t : Traced) → IsFinishing document place notes items seen t → (events : List Event) × Reached document events notes items seen t
finishing_reached document _ _ _ _ _ (Scheduled notes items seen t reached) = (document.schedule, reached)
finishing_reached document _ _ _ _ _ (Finishes place later notes items more before after old new event note finishing next one forgets) =
    let so = finishing_reached document place notes items before old finishing in
    (so.0 ++ event ∷ [], GoesOn so.0 notes items more before after old new event note so.1 one forgets)
