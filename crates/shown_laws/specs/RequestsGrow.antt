-- Requests go on: what one of them did stays in front of its steps, and more follow.
use Rattle.std.specs.Prelude.{IsTrue, List, [], ◌++◌}
use Rattle.outage_schedule.specs.declared.document.Document.{Document}
use Rattle.outage_schedule.specs.declared.event.Event.{Event}
use Rattle.outage_schedule.specs.declared.item.Served.{Served}
use Rattle.outage_schedule.specs.declared.note.Note.{Note}
use Rattle.server_model.specs.Seen.{Seen}
use Rattle.world_model.specs.meaning.Clients.{Step, Client}
use Rattle.world_model.specs.meaning.Frames.{Owner}
use Rattle.world_model.specs.OneEvent.{OneEvent}
use Rattle.world_model.specs.Reached.{Reached}
use Rattle.world_model.specs.records.Ready.{all_requests_right}
use Rattle.world_model.specs.Traced.{Traced}
use Rattle.shown_laws.specs.ByPlace.{RequestSteps, IsRequestOf}

-- it has more steps behind these
pub record GoesOnAs (clients : List Client) (owner : Owner) (one : RequestSteps) : Type 0 where
  pub more : List Step
  pub is : IsRequestOf clients owner (record { request = one.request; steps = one.steps ++ more })

-- so it is behind each event
abbrev pub RequestsGrow : Type 0
RequestsGrow =
    (document : Document) (events : List Event) (notes : List Note) (items more : List Served)
    (before after : Seen) (old new : Traced) (event : Event) (note : Note)
    → IsTrue (all_requests_right document) → Reached document events notes items before old
    → OneEvent before old event note more [] after new
    → (owner : Owner) (one : RequestSteps) → IsRequestOf old.machine.clients owner one
    → GoesOnAs new.machine.clients owner one
