-- Wherever a run has come to, what is told of its connections is what they are.
use Rattle.std.specs.Prelude.{IsTrue, List}
use Rattle.outage_schedule.specs.declared.document.Document.{Document}
use Rattle.outage_schedule.specs.declared.event.Event.{Event}
use Rattle.outage_schedule.specs.declared.item.Served.{Served}
use Rattle.outage_schedule.specs.declared.note.Note.{Note}
use Rattle.server_model.specs.Seen.{Seen}
use Rattle.world_model.specs.meaning.Finishing.{Place}
use Rattle.world_model.specs.Reached.{Reached, IsFinishing}
use Rattle.world_model.specs.records.Ready.{all_requests_right}
use Rattle.world_model.specs.Traced.{Traced}
use Rattle.shown_laws.specs.Connections.{TellsLinks, FoundBySession}
use Rattle.shown_laws.specs.Telling.{seen_told}

-- each by its number, and by its session
pub record AreTold (notes : List Note) (items : List Served) (t : Traced) : Type 0 where
  pub links : TellsLinks t.machine.links (seen_told notes items).links
  pub sessions : FoundBySession (seen_told notes items).links

abbrev pub RunsTellConnections : Type 0
RunsTellConnections =
    (document : Document) (events : List Event) (notes : List Note) (items : List Served)
    (seen : Seen) (t : Traced)
    → IsTrue (all_requests_right document) → Reached document events notes items seen t
    → AreTold notes items t

abbrev pub FinishesTellConnections : Type 0
FinishesTellConnections =
    (document : Document) (place : Place) (notes : List Note) (items : List Served) (seen : Seen)
    (t : Traced)
    → IsTrue (all_requests_right document) → IsFinishing document place notes items seen t
    → AreTold notes items t
