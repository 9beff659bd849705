-- Which calls a replay repeats: of those that were shown before its connection was opened the ones
-- behind the last that was decided.
use Rattle.std.specs.Prelude.{◌≡◌, ◌<◌, ℕ, ◌+◌, ◌==◌, ◌&&◌, ◌||◌, Bool, true, false, if◌then◌else◌, IsTrue, nat_le, nat_lt, List, [], ◌∷◌, ◌++◌, length, slice_get, Option, Some, None}
use Rattle.std.specs.List.{list_all, list_any}
use Rattle.std.specs.Option.{option_map_or}
use Rattle.outage_schedule.specs.declared.document.Document.{Document}
use Rattle.outage_schedule.specs.declared.document.Request.{Request}
use Rattle.outage_schedule.specs.declared.event.Event.{Event}
use Rattle.outage_schedule.specs.declared.item.Served.{Served}
use Rattle.outage_schedule.specs.declared.note.Note.{Note}
use Rattle.outage_schedule.specs.declared.request.ShownCall.{ShownCall}
use Rattle.server_model.specs.Seen.{Seen}
use Rattle.client_model.specs.declared.input.Input.{Input}
use Rattle.client_model.specs.declared.input.Input.TheVariants.{Opened}
use Rattle.client_model.specs.meaning.Terms.{Terms}
use Rattle.run_clauses.specs.meaning.Reports.{report_of}
use Rattle.world_model.specs.meaning.Clients.{Step}
use Rattle.world_model.specs.meaning.Frames.{Sent}
use Rattle.world_model.specs.meaning.Links.{Link, link_at}
use Rattle.world_model.specs.Parts.{implies}
use Rattle.world_model.specs.Reached.{Reached}
use Rattle.world_model.specs.records.Ready.{all_requests_right}
use Rattle.world_model.specs.Sames.{owned_by}
use Rattle.world_model.specs.records.Script.{recorded_from}
use Rattle.invariant_laws.specs.Shown.{is_marked}
use Rattle.world_model.specs.Traced.{Traced, Course, courses_of}
use Rattle.world_model.specs.Words.{dones_of, held_in}

-- the calls that a request was shown at these steps
abbrev pub shown_at : Terms → Request → List Step → List ShownCall
shown_at terms request steps = (report_of terms request (dones_of steps)).calls

-- where these were shown, the call of this index is repeated
abbrev pub is_repeated : List ShownCall → ℕ → Bool
is_repeated shown call = nat_le (recorded_from shown) call && nat_lt call (length shown)

-- the connection of this number was opened
abbrev pub opens : ℕ → Input → Bool
opens number (Opened connection) = connection == number
opens number _ = false

-- by what was shown before a step at which the connection was opened
abbrev pub repeats_from : Terms → Request → ℕ → ℕ → List Step → List Step → Bool
repeats_from terms request number call before [] = false
repeats_from terms request number call before (step ∷ steps) =
    (opens number step.done.input && is_repeated (shown_at terms request before) call)
    || repeats_from terms request number call (before ++ step ∷ []) steps

-- each call with the mark that a request sent on a connection is such a one
abbrev pub is_replayed : Terms → Course → ℕ → Sent → Bool
is_replayed terms course number sent = implies (owned_by course.owner sent && is_marked sent.frame)
    (repeats_from terms course.request number sent.call [] course.steps)

abbrev pub replays_on : Terms → Course → ℕ → List Link → Bool
replays_on terms course number [] = true
replays_on terms course number (link ∷ links) =
    list_all (is_replayed terms course number) link.sent
    && replays_on terms course (number + 1) links

abbrev pub replay_shown : Traced → Bool
replay_shown t = list_all (λ course. replays_on t.setting.terms course 1 t.machine.links)
    (courses_of t)

-- the steps before the first at which the connection of this number was opened
abbrev pub before_opening : ℕ → List Step → List Step → Option (List Step)
before_opening number before [] = None
before_opening number before (step ∷ steps) =
    if opens number step.done.input then Some before else
    before_opening number (before ++ step ∷ []) steps

abbrev pub is_from_opening : Terms → Course → ℕ → ℕ → Bool
is_from_opening terms course number call =
    option_map_or (λ before. is_repeated (shown_at terms course.request before) call)
    (before_opening number [] course.steps) false

-- Wherever a run has come to: a call with the mark that a request sent on a connection is one of
-- those that it was shown before it opened this connection, behind the last of them that was
-- decided.
abbrev pub RunsReplayShown : Type 0
RunsReplayShown =
    (document : Document) (events : List Event) (notes : List Note) (items : List Served)
    (seen : Seen) (t : Traced)
    → IsTrue (all_requests_right document) → Reached document events notes items seen t
    → (place : ℕ) (course : Course) → slice_get (courses_of t) place ≡ Some course
    → (number : ℕ) (link : Link) → link_at t.machine.links number ≡ Some link
    → (index : ℕ) (sent : Sent) → slice_get link.sent index ≡ Some sent
    → IsTrue (owned_by course.owner sent) → IsTrue (is_marked sent.frame)
    → IsTrue (is_from_opening t.setting.terms course number sent.call)

-- Behind a Connect, the question for an outcome, a Begin and so many calls with the mark, it
-- repeats the call that is as many behind the last decided of those that were shown before the
-- opening.
pub record IsRepeat (terms : Terms) (course : Course) (number : ℕ) (front : List Sent)
    (sent : Sent) : Type 0 where
  pub before : List Step
  pub opened : before_opening number [] course.steps ≡ Some before
  pub place : ℕ
  pub long : length front ≡ place + 3
  pub index : sent.call ≡ recorded_from (shown_at terms course.request before) + place
  pub within : sent.call < length (shown_at terms course.request before)

-- so does each call with the mark on a connection that its request held, wherever a run has come to
abbrev pub RunsRepeatInOrder : Type 0
RunsRepeatInOrder =
    (document : Document) (events : List Event) (notes : List Note) (items : List Served)
    (seen : Seen) (t : Traced)
    → IsTrue (all_requests_right document) → Reached document events notes items seen t
    → (place : ℕ) (course : Course) → slice_get (courses_of t) place ≡ Some course
    → (number : ℕ) (link : Link) → link_at t.machine.links number ≡ Some link
    → IsTrue (list_any (λ other. other == number) (held_in course.steps))
    → (front : List Sent) (sent : Sent) (rest : List Sent) → link.sent ≡ front ++ sent ∷ rest
    → IsTrue (owned_by course.owner sent) → IsTrue (is_marked sent.frame)
    → IsRepeat t.setting.terms course number front sent
