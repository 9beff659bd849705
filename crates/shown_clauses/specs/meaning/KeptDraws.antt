-- What a call with the mark was shown with: the draws that its frame carries.
use Rattle.std.specs.Prelude.{ℕ, zero, suc, ◌+◌, ◌==◌, ◌&&◌, Bool, true, false, is_some, nat_lt, List, [], ◌∷◌, ◌++◌, length, filter, reverse, Option, slice_get}
use Rattle.std.specs.List.{list_any}
use Rattle.std.specs.Option.{option_map_or}
use Rattle.svc_values.specs.declared.draw.Draw.{Draw}
use Rattle.outage_schedule.specs.declared.item.Item.{Item}
use Rattle.outage_schedule.specs.declared.item.Item.TheVariants as item
use Rattle.svc_values.specs.declared.entry.SessionId.{SessionId}
use Rattle.outage_schedule.specs.declared.item.Served.{Served}
use Rattle.outage_schedule.specs.declared.request.ShownCall.{ShownCall}
use Rattle.outage_schedule.specs.declared.document.Document.{Document}
use Rattle.outage_schedule.specs.declared.report.Report.{Report}
use Rattle.shown_clauses.specs.meaning.Fronts.{first_of}
use Rattle.shown_clauses.specs.meaning.Links.{Acquired, Turn, Link, Seen, link_of_session}
use Rattle.shown_clauses.specs.meaning.Steps.{Step, steps, steps_of}
use Rattle.shown_clauses.specs.meaning.Submissions.{Submission, submissions_by_client}
use Rattle.shown_clauses.specs.meaning.Parts.{Part, parts_of}
use Rattle.shown_clauses.specs.meaning.Showings.{showing_at}
use Rattle.shown_clauses.specs.meaning.Turns.{ends_decided, is_marked}

-- ---- the submissions with their steps

abbrev pub parts_from : ℕ → List Step → List (List Submission) → List Part
parts_from client all [] = []
parts_from client all (submissions ∷ more) =
    parts_of submissions (steps_of client all) ++ parts_from (client + 1) all more

abbrev pub is_marked_item : Item → Bool
is_marked_item (item.Call true call answers draws) = true
is_marked_item _ = false

abbrev pub has_marked : List Served → Bool
has_marked served = list_any (λ one. is_marked_item one.item) served

abbrev pub parts_if : Bool → Document → Report → List Part
parts_if true document report = parts_from 1 (steps report) (submissions_by_client document report)
parts_if false document report = []

-- of all clients, where a call with the mark was served
abbrev pub parts : Document → Report → List Part
parts document report = parts_if (has_marked report.served) document report

-- ---- the call that is replayed

abbrev pub if_decided : Bool → ShownCall → List ShownCall → List ShownCall
if_decided true one since = []
if_decided false one since = one ∷ since

-- of so many shown calls those behind the last one that ended with Committed or Conflict
abbrev pub shown_since : ℕ → List ShownCall → List ShownCall → List ShownCall
shown_since zero since shown = reverse since
shown_since (suc more) since [] = reverse since
shown_since (suc more) since (one ∷ shown) =
    shown_since more (if_decided (ends_decided one.answers) one since) shown

-- how many calls were shown before an event
abbrev pub shown_before : List Step → ℕ → ℕ
shown_before steps event = length (filter (λ step. is_some (showing_at step)
    && nat_lt step.event event) steps)

abbrev pub is_step_of : ℕ → Part → Bool
is_step_of event part = list_any (λ step. step.event == event) part.steps

-- the submission that acquired the session with this step
abbrev pub acquired_by : List Part → Acquired → Option Part
acquired_by parts acquired = first_of (is_step_of acquired.event) parts

-- The replayed call of this place: a replay begins anew with the call after the last one that was
-- shown with such answers. It is of calls that were shown before the session was acquired: one
-- whose connection was lost may serve its calls when more were shown on a later one.
abbrev pub draws_shown : ℕ → ℕ → Part → List Draw
draws_shown acquired place part =
    option_map_or (λ shown. shown.draws)
    (slice_get (shown_since (shown_before part.steps acquired) [] part.submission.copy.calls)
    place) []

-- how many calls with the mark the turn has
abbrev pub place_in : Turn → ℕ
place_in turn = length (filter is_marked turn.calls)

abbrev pub kept_since : List Part → ℕ → Acquired → List Draw
kept_since parts place acquired = option_map_or (draws_shown acquired.event place)
    (acquired_by parts acquired) []

abbrev pub kept_in_turn : List Part → Turn → List Draw
kept_in_turn parts turn = option_map_or (kept_since parts (place_in turn)) turn.acquired []

abbrev pub kept_on_link : List Part → Link → List Draw
kept_on_link parts link = option_map_or (kept_in_turn parts) link.turn []

-- The draws that a call was shown with which its session serves with the mark; none where the notes
-- give no such call. (The connections are those before the item.)
abbrev pub kept_at : List Part → Seen → SessionId → List Draw
kept_at parts seen session = option_map_or (kept_on_link parts) (link_of_session session seen.links)
    []
