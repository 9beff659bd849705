-- What the report of a run tells of a replay: whose it is, and which of its calls a session serves.
use Rattle.std.specs.Prelude.{◌≡◌, ◌==◌, ◌+◌, ℕ, IsTrue, List, [], ◌∷◌, ◌++◌, length, slice_get, Some}
use Rattle.std.specs.List.{list_any}
use Rattle.svc_values.specs.declared.draw.Draw.{Draw}
use Rattle.outage_schedule.specs.declared.document.Document.{Document}
use Rattle.outage_schedule.specs.declared.event.Event.{Event}
use Rattle.outage_schedule.specs.declared.item.Served.{Served}
use Rattle.outage_schedule.specs.declared.report.Report.{Report}
use Rattle.outage_schedule.specs.declared.request.ShownCall.{ShownCall}
use Rattle.server_model.specs.Runs.{Server}
use Rattle.server_model.specs.Seen.{Seen}
use Rattle.shown_clauses.specs.meaning.KeptDraws.{parts, shown_before, acquired_by, place_in}
use Rattle.shown_clauses.specs.meaning.Links.{Acquired, Link as SeenLink, Turn, link_of, link_of_session}
use Rattle.shown_clauses.specs.meaning.Parts.{Part}
use Rattle.world_model.specs.meaning.Clients.{Step, Client}
use Rattle.world_model.specs.meaning.Frames.{Owner, Sent}
use Rattle.world_model.specs.meaning.Links.{Link, link_at}
use Rattle.world_model.specs.records.Ready.{all_requests_right}
use Rattle.invariant_laws.specs.Replayed.{shown_at, before_opening}
use Rattle.world_model.specs.Reported.{IsReported}
use Rattle.world_model.specs.Sames.{owned_by}
use Rattle.world_model.specs.Traced.{Traced, Course, courses_of}
use Rattle.world_model.specs.Words.{held_in}
use Rattle.shown_laws.specs.Telling.{seen_told}
use Rattle.shown_laws.specs.TurnOwners.{IsStepOf}
use Rattle.legal_laws.specs.MarksTold.{ServesMarked, end_of}
use Rattle.legal_laws.specs.Points.{Point, IsPoint}

-- A frame of a replay, among those that its request sent on a connection that it held.
pub record IsSentBy (p : Point) (number : ℕ) (first : Sent) : Type 0 where
  pub place : ℕ
  pub course : Course
  pub at : slice_get (courses_of p.t) place ≡ Some course
  pub held : IsTrue (list_any (λ other. other == number) (held_in course.steps))
  pub link : Link
  pub there : link_at p.t.machine.links number ≡ Some link
  pub front : List Sent
  pub sent : Sent
  pub rest : List Sent
  pub among : link.sent ≡ front ++ sent ∷ rest
  pub same : sent.frame ≡ first.frame
  pub owned : IsTrue (owned_by course.owner sent)

-- The turn that is told of its session has as many calls with the mark as were sent before it.
pub record TellsPlace (p : Point) (served : Served) (front : List Sent) : Type 0 where
  pub one : SeenLink
  pub found : link_of_session served.session (seen_told p.notes p.items).links ≡ Some one
  pub turn : Turn
  pub has : one.turn ≡ Some turn
  pub as_many : length front ≡ place_in turn + 3

-- The request that acquired the session of the turn is told as the one that sent it, and as shown
-- as many calls before as it was before it opened the connection, the same ones.
pub record TellsShown (parts : List Part) (p : Point) (number : ℕ) (course : Course)
    (turn : Turn) : Type 0 where
  pub acquired : Acquired
  pub acquires : turn.acquired ≡ Some acquired
  pub part : Part
  pub its : acquired_by parts acquired ≡ Some part
  pub before : List Step
  pub opened : before_opening number [] course.steps ≡ Some before
  pub shown : shown_before part.steps acquired.event ≡ length
      (shown_at p.t.setting.terms course.request before)
  pub more : List ShownCall
  pub so_far : course.report.calls ≡ shown_at p.t.setting.terms course.request before ++ more
  pub later : List ShownCall
  pub report : part.submission.copy.calls ≡ shown_at p.t.setting.terms course.request before
      ++ later

-- both
pub record TellsReplay (parts : List Part) (p : Point) (served : Served) (number : ℕ)
    (course : Course) (front : List Sent) : Type 0 where
  pub place : TellsPlace p served front
  pub shows : TellsShown parts p number course place.turn

pub record ReplayTold (parts : List Part) (p : Point) (served : Served) (number : ℕ)
    (first : Sent) : Type 0 where
  pub by : IsSentBy p number first
  pub tells : TellsReplay parts p served number by.course by.front

-- A turn whose session was acquired by a step of this request.
pub record IsAcquired (clients : List Client) (turn : Turn) (owner : Owner) : Type 0 where
  pub acquired : Acquired
  pub acquires : turn.acquired ≡ Some acquired
  pub did : IsStepOf clients owner acquired

-- whose it is, its place in the turn, and that the turn is of this request
pub record IsPlaced (p : Point) (served : Served) (number : ℕ) (first : Sent) : Type 0 where
  pub by : IsSentBy p number first
  pub place : TellsPlace p served by.front
  pub told : link_of number (seen_told p.notes p.items).links ≡ Some place.one
  pub acquirer : IsAcquired p.t.machine.clients place.turn by.course.owner

-- so it is of each call with the mark that is served in a run
abbrev pub ReplaysArePlaced : Type 0
ReplaysArePlaced =
    (document : Document) (last : Point) → IsTrue (all_requests_right document)
    → (p : Point) (served : Served) (kept : List Draw) → IsPoint document p
    → (serves : ServesMarked document last p served kept)
    → IsPlaced p served serves.number serves.front.first

-- The request is told as it is of each call with the mark that is served in a whole run, whose
-- place is told.
abbrev pub ReportsShowReplays : Type 0
ReportsShowReplays =
    (document : Document) (report : Report) (seen : Seen) (t : Traced) (server : Server)
    (events : List Event)
    → IsTrue (all_requests_right document) → IsReported document report seen t server
    → (p : Point) (served : Served) (kept : List Draw) → IsPoint document p
    → (serves : ServesMarked document (end_of events report seen t) p served kept)
    → (placed : IsPlaced p served serves.number serves.front.first)
    → TellsShown (parts document report) p serves.number placed.by.course placed.place.turn

-- so it is of each call with the mark that is served in a whole run
abbrev pub ReportsTellReplays : Type 0
ReportsTellReplays =
    (document : Document) (report : Report) (seen : Seen) (t : Traced) (server : Server)
    (events : List Event)
    → IsTrue (all_requests_right document) → IsReported document report seen t server
    → (p : Point) (served : Served) (kept : List Draw) → IsPoint document p
    → (serves : ServesMarked document (end_of events report seen t) p served kept)
    → ReplayTold (parts document report) p served serves.number serves.front.first
