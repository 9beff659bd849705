-- Each turn that is told is right for a request that held its connection, wherever a run has come
-- to.
use Rattle.std.specs.Prelude.{◌≡◌, ◌==◌, ℕ, IsTrue, List, [], ◌∷◌, reverse, slice_get, Some}
use Rattle.std.specs.List.{list_any}
use Rattle.outage_schedule.specs.declared.document.Document.{Document}
use Rattle.outage_schedule.specs.declared.event.Event.{Event}
use Rattle.outage_schedule.specs.declared.item.Served.{Served}
use Rattle.outage_schedule.specs.declared.note.Note.{Note}
use Rattle.server_model.specs.Seen.{Seen as ServerSeen}
use Rattle.shown_clauses.specs.meaning.Links.{Link as SeenLink, Seen, Turn, link_of}
use Rattle.shown_clauses.specs.meaning.Steps.{turns_seen}
use Rattle.shown_clauses.specs.meaning.Turns.{is_turn_right}
use Rattle.world_model.specs.meaning.Finishing.{Place}
use Rattle.world_model.specs.Reached.{Reached, IsFinishing, IsRun}
use Rattle.world_model.specs.records.Ready.{all_requests_right}
use Rattle.world_model.specs.Traced.{Traced, Course, courses_of}
use Rattle.world_model.specs.Words.{held_in}
use Rattle.shown_laws.specs.Telling.{seen_told}
use Rattle.shown_laws.specs.Submitted.{submission_so_far}

-- It served no call, or those of a request that held the connection of this number, for which it is
-- right.
pub data RightFor (t : Traced) (number : ℕ) (turn : Turn) : Type 0 where
  ServesNone : reverse turn.calls ≡ [] → RightFor t number turn
  ServesOwn : (course : Course) (place : ℕ) → slice_get (courses_of t) place ≡ Some course
      → IsTrue (list_any (λ other. other == number) (held_in course.steps))
      → IsTrue (is_turn_right (submission_so_far course) turn) → RightFor t number turn

pub data AreRight (t : Traced) : List Turn → Type 0 where
  NoTurns : AreRight t []
  OneTurn : (turn : Turn) (more : List Turn) (number : ℕ) → RightFor t number turn → AreRight t more
      → AreRight t (turn ∷ more)

-- those that another Begin followed, and the one that each connection has
pub record TellsRight (t : Traced) (seen : Seen) : Type 0 where
  pub over : AreRight t seen.over
  pub current : (number : ℕ) (one : SeenLink) (turn : Turn) → link_of number seen.links ≡ Some one
      → one.turn ≡ Some turn → RightFor t number turn

abbrev pub RunsTellRight : Type 0
RunsTellRight =
    (document : Document) (events : List Event) (notes : List Note) (items : List Served)
    (seen : ServerSeen) (t : Traced)
    → IsTrue (all_requests_right document) → Reached document events notes items seen t
    → TellsRight t (seen_told notes items)

abbrev pub FinishesTellRight : Type 0
FinishesTellRight =
    (document : Document) (place : Place) (notes : List Note) (items : List Served)
    (seen : ServerSeen) (t : Traced)
    → IsTrue (all_requests_right document) → IsFinishing document place notes items seen t
    → TellsRight t (seen_told notes items)

-- all that the report of a whole run tells
abbrev pub WholeRunsTellRight : Type 0
WholeRunsTellRight =
    (document : Document) (notes : List Note) (items : List Served) (seen : ServerSeen) (t : Traced)
    → IsTrue (all_requests_right document) → IsRun document notes items seen t
    → AreRight t (turns_seen (seen_told notes items))
