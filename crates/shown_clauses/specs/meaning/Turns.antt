-- What sessions served since a `begin`: a call that is not replayed comes after those that are.
use Rattle.std.specs.Prelude.{ℕ, ◌==◌, ◌&&◌, ◌||◌, Bool, true, false, not, nat_le, nat_lt, List, [], ◌∷◌, length, map, filter, filter_map, reverse, Option, Some, None, option_and_then}
use Rattle.std.specs.List.{list_all, last_or}
use Rattle.std.specs.Option.{option_map_or}
use Rattle.svc_values.specs.declared.answer.Answer.{Answer}
use Rattle.svc_values.specs.declared.call.Call.{Call}
use Rattle.svc_values.specs.meaning.Endings.{ends_committed, ends_conflict}
use Rattle.outage_schedule.specs.declared.request.ShownCall.{ShownCall}
use Rattle.svc_values.specs.meaning.Same.{same_call, same_calls}
use Rattle.shown_clauses.specs.meaning.Fronts.{front_of, rest_of, first_item}
use Rattle.shown_clauses.specs.meaning.Links.{Marked, Turn}
use Rattle.shown_clauses.specs.meaning.Steps.{Step}
use Rattle.shown_clauses.specs.meaning.Parts.{Part}
use Rattle.shown_clauses.specs.meaning.Submissions.{Submission}

-- the last answer is Committed or Conflict
abbrev pub ends_decided : List Answer → Bool
ends_decided answers = ends_committed answers || ends_conflict answers

-- Calls j to i - 1 once call i was shown, the newest first: call j - 1 is the last one before that
-- was shown with such answers.
abbrev pub shown_since : Bool → Call → List Call → List Call
shown_since true call since = []
shown_since false call since = call ∷ since

-- These calls are exactly those. (They are compared where there are as many.)
abbrev pub are_these : Bool → List Call → List Call → Bool
are_these true marked since = same_calls marked since
are_these false marked since = false

-- Call i can be this call, and the calls before it those with the mark, the newest first.
abbrev pub fits_here : Call → List Call → List Call → Call → Bool
fits_here first marked since call = are_these
    (same_call call first && (length since == length marked)) marked since

-- there is such an i, among the calls that were shown and the next one
abbrev pub fits_from : Call → List Call → List Call → List Call → List ShownCall → Bool
fits_from first marked since [] shown = false
fits_from first marked since (call ∷ calls) [] = fits_here first marked since call
fits_from first marked since (call ∷ calls) (one ∷ shown) =
    fits_here first marked since call || fits_from first marked
    (shown_since (ends_decided one.answers) call since) calls shown

abbrev pub is_marked : Marked → Bool
is_marked one = one.replay

-- The calls with the mark are exactly the calls j to i - 1, in order, all before the first one
-- without it, which is call i.
abbrev pub begins_with : Submission → List Marked → List Marked → Bool
begins_with submission marked [] = true
begins_with submission marked (first ∷ more) =
    list_all (λ one. not one.replay) more
    && fits_from first.call (reverse (map (λ one. one.call) marked)) [] submission.request.calls
    submission.copy.calls

abbrev pub is_turn_right : Submission → Turn → Bool
is_turn_right submission turn =
    let served : List Marked = reverse turn.calls in
    begins_with submission (front_of is_marked served) (rest_of is_marked served)

-- ---- whose turn it is

-- A `begin` item belongs to the request whose acquisition of that session is the last before it.
-- What a session served since a `begin`, and the event of the acquisition before it.
pub record Owned : Type 0 where
  pub event : ℕ
  pub turn : Turn

abbrev pub owned_if : Bool → ℕ → Turn → Option Owned
owned_if true event turn = Some (record { event = event; turn = turn })
owned_if false event turn = None

abbrev pub owned_by : ℕ → Turn → Option Owned
owned_by client turn = option_and_then (λ acquired. owned_if (acquired.client == client)
    acquired.event turn) turn.acquired

-- the turns of the sessions that a client acquired
abbrev pub turns_of : ℕ → List Turn → List Owned
turns_of client turns = filter_map (owned_by client) turns

-- the turns whose acquisition is one of these steps of the client, all that there are between its
-- first and its last
abbrev pub owned_between : ℕ → ℕ → List Owned → List Owned
owned_between first last owned = filter (λ one. nat_le first one.event && nat_le one.event last)
    owned

abbrev pub owned_in : Option Step → Option Step → List Owned → List Owned
owned_in (Some first) (Some last) owned = owned_between first.event last.event owned
owned_in _ _ owned = []

abbrev pub turns_right : List Owned → Part → Bool
turns_right owned part = list_all (λ one. is_turn_right part.submission one.turn)
    (owned_in (first_item part.steps) (last_or None part.steps) owned)

-- The notes give the request of the `begin`: it was acquired before the first step that is of no
-- submission.
abbrev pub has_request : Option Step → Owned → Bool
has_request None one = true
has_request (Some step) one = nat_lt one.event step.event

-- its session was acquired by one of so many clients
abbrev pub has_client : ℕ → Turn → Bool
has_client clients turn = option_map_or (λ acquired. nat_lt 0 acquired.client
    && nat_le acquired.client clients) turn.acquired false
