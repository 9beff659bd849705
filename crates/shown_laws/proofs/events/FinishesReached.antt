-- Wherever the finish of a run has come to, the run has come to by the events so far, and machine
-- and service stand beside one another.
use Rattle.std.specs.Prelude.{List, [], ◌∷◌, ◌++◌}
use Rattle.outage_schedule.specs.declared.document.Document.{Document}
use Rattle.outage_schedule.specs.declared.event.Event.{Event}
use Rattle.outage_schedule.specs.declared.item.Served.{Served}
use Rattle.outage_schedule.specs.declared.note.Note.{Note}
use Rattle.server_model.specs.Seen.{Seen}
use Rattle.world_model.specs.Coupled.{Coupled}
use Rattle.world_model.specs.meaning.Finishing.{Place}
use Rattle.world_model.specs.Reached.{Reached, Begins, GoesOn, IsFinishing, Scheduled, Finishes}
use Rattle.world_model.specs.Traced.{Traced}

pub finishing_reached : (document : Document) (place : Place) (notes : List Note) (items : List Served) (seen : Seen) (t : Traced) → IsFinishing document place notes items seen t → (events : List Event) × Reached document events notes items seen t
finishing_reached document _ _ _ _ _ (Scheduled notes items seen t reached) = (document.schedule, reached)
finishing_reached document _ _ _ _ _ (Finishes place later notes items more before after old new event note finishing next one forgets) =
    let so = finishing_reached document place notes items before old finishing in (so.0 ++ event ∷ [], GoesOn so.0 notes items more before after old new event note so.1 one forgets)

pub reached_coupled : (document : Document) (events : List Event) (notes : List Note) (items : List Served) (seen : Seen) (t : Traced) → Reached document events notes items seen t → Coupled seen t
reached_coupled document _ _ _ _ _ (Begins seen start history horizon coupled) = coupled
reached_coupled document _ _ _ _ _ (GoesOn events notes items more before after old new event note reached one forgets) = one.coupled_after
