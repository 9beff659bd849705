-- A turn of a connection is right for the request that held the connection and whose calls it
-- served.
use Rattle.std.specs.Prelude.{◌≡◌, ◌==◌, ℕ, IsTrue, List, ◌++◌, map, slice_get, Some}
use Rattle.std.specs.List.{list_all, list_any}
use Rattle.outage_schedule.specs.declared.document.Document.{Document}
use Rattle.outage_schedule.specs.declared.event.Event.{Event}
use Rattle.outage_schedule.specs.declared.item.Served.{Served}
use Rattle.outage_schedule.specs.declared.note.Note.{Note}
use Rattle.server_model.specs.Seen.{Seen}
use Rattle.shown_clauses.specs.meaning.Links.{Turn}
use Rattle.shown_clauses.specs.meaning.Turns.{is_turn_right}
use Rattle.world_model.specs.meaning.Finishing.{Place}
use Rattle.world_model.specs.meaning.Frames.{Handled}
use Rattle.world_model.specs.meaning.Links.{Link, link_at}
use Rattle.world_model.specs.Reached.{Reached, IsFinishing}
use Rattle.world_model.specs.records.Ready.{all_requests_right}
use Rattle.world_model.specs.Sames.{owned_by}
use Rattle.world_model.specs.Traced.{Traced, Course, courses_of}
use Rattle.world_model.specs.Words.{held_in}
use Rattle.shown_laws.specs.Submitted.{submission_so_far}
use Rattle.shown_laws.specs.TurnSent.{sent_since}
use Rattle.shown_laws.specs.TurnsServed.{calls_served}

-- what its session had served at some time, on a connection that a request held, where the calls
-- since the last Begin are this request's
pub record IsHeldTurn (t : Traced) (number : ℕ) (course : Course) (served : List Handled)
    (turn : Turn) : Type 0 where
  pub link : Link
  pub there : link_at t.machine.links number ≡ Some link
  pub later : List Handled
  pub all : link.served ≡ served ++ later
  pub calls : calls_served served ≡ Some turn.calls
  pub place : ℕ
  pub of_run : slice_get (courses_of t) place ≡ Some course
  pub held : IsTrue (list_any (λ other. other == number) (held_in course.steps))
  pub own : IsTrue (list_all (owned_by course.owner) (sent_since (map (λ one. one.sent) served)))

abbrev pub HaveRightTurns : Traced → Type 0
HaveRightTurns t = (number : ℕ) (course : Course) (served : List Handled) (turn : Turn)
    → IsHeldTurn t number course served turn
    → IsTrue (is_turn_right (submission_so_far course) turn)

-- wherever a run has come to
abbrev pub RunsHaveRightTurns : Type 0
RunsHaveRightTurns =
    (document : Document) (events : List Event) (notes : List Note) (items : List Served)
    (seen : Seen) (t : Traced) → IsTrue (all_requests_right document)
    → Reached document events notes items seen t → HaveRightTurns t

abbrev pub FinishesHaveRightTurns : Type 0
FinishesHaveRightTurns =
    (document : Document) (place : Place) (notes : List Note) (items : List Served) (seen : Seen)
    (t : Traced) → IsTrue (all_requests_right document)
    → IsFinishing document place notes items seen t → HaveRightTurns t
