-- The turns that another Begin followed.
use Rattle.std.specs.Prelude.{◌≡◌, ℕ, IsTrue, List, [], ◌∷◌, ◌++◌, Some}
use Rattle.outage_schedule.specs.declared.document.Document.{Document}
use Rattle.outage_schedule.specs.declared.event.Event.{Event}
use Rattle.outage_schedule.specs.declared.item.Served.{Served}
use Rattle.outage_schedule.specs.declared.note.Note.{Note}
use Rattle.server_model.specs.Seen.{Seen as ServerSeen}
use Rattle.shown_clauses.specs.meaning.Links.{Turn}
use Rattle.world_model.specs.meaning.Finishing.{Place}
use Rattle.world_model.specs.meaning.Frames.{Handled}
use Rattle.world_model.specs.meaning.Links.{Link, link_at}
use Rattle.world_model.specs.Reached.{Reached, IsFinishing}
use Rattle.world_model.specs.records.Ready.{all_requests_right}
use Rattle.world_model.specs.Traced.{Traced}
use Rattle.shown_laws.specs.Telling.{seen_told}
use Rattle.shown_laws.specs.TurnsServed.{calls_served, served_in}

-- A turn that was: its calls are those that the session of a connection had served since a Begin
-- when it served the next one.
pub record WasTurn (links : List Link) (turn : Turn) : Type 0 where
  pub number : ℕ
  pub before : List Handled
  pub later : List Handled
  pub served : served_in (link_at links number) ≡ before ++ later
  pub calls : calls_served before ≡ Some turn.calls

-- Each was one, and of each this holds beside what its session had served.
pub data WereTurns (Beside : Turn → List Handled → Type 0) (links : List Link) : List Turn
    → Type 0 where
  NoneOver : WereTurns Beside links []
  OneOver : (turn : Turn) (more : List Turn) (was : WasTurn links turn) → Beside turn was.before
      → WereTurns Beside links more → WereTurns Beside links (turn ∷ more)

abbrev pub NothingBeside : Turn → List Handled → Type 0
NothingBeside turn before = Unit {0}

-- each that is told as over was one
abbrev pub RunsTellOver : Type 0
RunsTellOver =
    (document : Document) (events : List Event) (notes : List Note) (items : List Served)
    (seen : ServerSeen) (t : Traced)
    → IsTrue (all_requests_right document) → Reached document events notes items seen t
    → WereTurns NothingBeside t.machine.links (seen_told notes items).over

abbrev pub FinishesTellOver : Type 0
FinishesTellOver =
    (document : Document) (place : Place) (notes : List Note) (items : List Served)
    (seen : ServerSeen) (t : Traced)
    → IsTrue (all_requests_right document) → IsFinishing document place notes items seen t
    → WereTurns NothingBeside t.machine.links (seen_told notes items).over
