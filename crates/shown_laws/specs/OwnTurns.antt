-- A turn of a connection is right for the request whose calls it served.
use Rattle.std.specs.Prelude.{◌≡◌, ℕ, Bool, IsTrue, List, [], ◌++◌, map, Some}
use Rattle.std.specs.List.{list_all}
use Rattle.shown_clauses.specs.meaning.Links.{Turn}
use Rattle.shown_clauses.specs.meaning.Turns.{is_turn_right}
use Rattle.invariant_laws.specs.FirstBegins.{begin_new}
use Rattle.world_model.specs.meaning.Frames.{Handled}
use Rattle.world_model.specs.meaning.Links.{Link, link_at}
use Rattle.invariant_laws.specs.NearCalls.{is_shown_or_next}
use Rattle.world_model.specs.Sames.{is_front, owned_by, same_sent}
use Rattle.invariant_laws.specs.Shown.{calls_on, is_row}
use Rattle.world_model.specs.Traced.{Course, Traced}
use Rattle.world_model.specs.records.Wire.{Wire, handled_from, is_right, stage_of}
use Rattle.shown_laws.specs.ServedSent.{none_blocked}
use Rattle.shown_laws.specs.Submitted.{submission_so_far}
use Rattle.shown_laws.specs.TurnSent.{sent_since}
use Rattle.shown_laws.specs.TurnsServed.{calls_served}

-- what is asked of a connection and of what its session had served in the turn
pub record IsOwnTurn (course : Course) (link : Link) (served : List Handled)
    (turn : Turn) : Type 0 where
  pub calls : calls_served served ≡ Some turn.calls
  pub handled : IsTrue (handled_from 0 served)
  pub unblocked : IsTrue (none_blocked served)
  pub front : IsTrue (is_front same_sent (map (λ one. one.sent) served) link.sent)
  pub grammar : IsTrue (is_right (stage_of link))
  pub once : IsTrue (begin_new [] link.sent)
  pub own : IsTrue (list_all (owned_by course.owner) (sent_since (map (λ one. one.sent) served)))

abbrev pub OwnTurnsAreRight : Type 0
OwnTurnsAreRight =
    (course : Course) (current : Bool) (link : Link) (served : List Handled) (turn : Turn)
    → IsOwnTurn course link served turn → IsTrue (is_row course current (calls_on course link))
    → IsTrue (list_all (is_shown_or_next course.report.calls) (calls_on course link))
    → IsTrue (is_turn_right (submission_so_far course) turn)

-- What the wire gives of it, wherever the turn ended.
pub record OnWire (link : Link) (served : List Handled) : Type 0 where
  pub handled : IsTrue (handled_from 0 served)
  pub front : IsTrue (is_front same_sent (map (λ one. one.sent) served) link.sent)
  pub grammar : IsTrue (is_right (stage_of link))

abbrev pub TurnsAreOnWire : Type 0
TurnsAreOnWire = (t : Traced) (number : ℕ) (link : Link) (before later : List Handled) → Wire t
    → link_at t.machine.links number ≡ Some link → link.served ≡ before ++ later
    → OnWire link before
