-- The lines by which a request fails, one definition each.
use Rattle.std.specs.Prelude.{ℕ, ◌+◌, ◌-◌, ◌==◌, ◌&&◌, ◌||◌, Bool, true, false, not, nat_lt, nat_le, is_none, List, ◌++◌, reverse, filter_map, count_by, slice_get, Option, Some, None, if◌then◌else◌}
use Rattle.std.specs.List.{list_all, list_any}
use Rattle.std.specs.Option.{option_or}
use Rattle.std.specs.Str.{bytes_eq}
use Rattle.svc_values.specs.declared.answer.Answer.{Answer}
use Rattle.svc_values.specs.declared.call.Call.{Call}
use Rattle.svc_values.specs.declared.call.Call.TheVariants as call
use Rattle.svc_values.specs.declared.entry.Ltxid.{Ltxid}
use Rattle.svc_values.specs.meaning.Same.{same_answers}
use Rattle.outage_schedule.specs.declared.document.ServiceOf.{ServiceOf}
use Rattle.outage_schedule.specs.declared.failure.Failure.{Failure}
use Rattle.outage_schedule.specs.declared.failure.Failure.TheVariants as failure
use Rattle.outage_schedule.specs.declared.failure.Reason.{Reason}
use Rattle.outage_schedule.specs.declared.failure.Reason.TheVariants as reason
use Rattle.outage_schedule.specs.declared.item.Item.{Item}
use Rattle.outage_schedule.specs.declared.item.Item.TheVariants as item
use Rattle.outage_schedule.specs.declared.item.Served.{Served}
use Rattle.outage_schedule.specs.declared.note.AskResult.TheVariants as told
use Rattle.outage_schedule.specs.declared.note.GoNote.{GoNote}
use Rattle.outage_schedule.specs.declared.note.GoNote.TheVariants as go
use Rattle.outage_schedule.specs.declared.request.Outcome.{Outcome}
use Rattle.outage_schedule.specs.declared.request.ShownCall.{ShownCall}
use Rattle.run_clauses.specs.meaning.NoClash.{digest}
use Rattle.shown_clauses.specs.meaning.Fronts.{front_of, first_item, is_empty}
use Rattle.shown_clauses.specs.meaning.Links.{Link}
use Rattle.shown_clauses.specs.meaning.Steps.{Step}
use Rattle.shown_clauses.specs.meaning.Showings.{outcome_told, outcome_at}
use Rattle.shown_clauses.specs.meaning.Submissions.{Submission}
use Rattle.shown_clauses.specs.meaning.Facts.{Fact, Submitted, Showed, Course, after_step, facts_at}
use Rattle.shown_clauses.specs.meaning.Reasons.{reason_of, keeps_settings}

-- A request up to a step, which is its newest: its steps and what happened in them, the newest
-- first; how far it had come before that step, and the tick of its first one.
pub record Past : Type 0 where
  pub steps : List Step
  pub facts : List Fact
  pub before : Course
  pub begun : ℕ

-- ---- steps that are no answer

abbrev pub is_down : GoNote → Bool
is_down go.Down = true
is_down _ = false

abbrev pub is_early : GoNote → Bool
is_early go.Early = true
is_early _ = false

abbrev pub is_wait : GoNote → Bool
is_wait go.Wait = true
is_wait _ = false

-- how many steps noted `down` are its last but `early` ones
abbrev pub last_downs : List Step → ℕ
last_downs steps = count_by (λ step. is_down step.did)
    (front_of (λ step. is_down step.did || is_early step.did) steps)

-- 1. Retries(n): n = retries, and the last n steps of the request other than `early` are noted
-- `down`.
abbrev pub retries_line : ServiceOf → List Step → Option Failure
retries_line service steps = if nat_le service.retries (last_downs steps) then
    Some (failure.Retries service.retries) else None

-- 8. PoolWait(f, g): every step of the request is noted `wait`, the first at tick f, the last at
-- tick g, and g - f >= wait.
abbrev pub all_wait : Bool → List Step → Bool
all_wait true steps = list_all (λ step. is_wait step.did) steps
all_wait false steps = false

abbrev pub pool_wait_line : ServiceOf → ℕ → ℕ → List Step → Option Failure
pool_wait_line service first now steps =
    if all_wait (nat_le service.pool.wait (now - first)) steps then
    Some (failure.PoolWait first now) else None

-- ---- outcomes

-- What stands at the step that took an outcome. `ended` is the event that ended the connection of
-- the session of its identifier, one that this request held; `reason` is the reason that stood
-- before what that step sends; `uncommitted` is how many of the request's outcomes say committed
-- false, this one included; `first` is the tick of the first submission; `index` is how many calls
-- were shown, that by this outcome included, and `follows` whether another call follows;
-- `set_shown` is whether a `set` was shown.
pub record AtOutcome : Type 0 where
  pub outcome : Outcome
  pub ended : ℕ
  pub tick : ℕ
  pub reason : Option Reason
  pub uncommitted : ℕ
  pub first : Option ℕ
  pub index : ℕ
  pub follows : Bool
  pub set_shown : Bool

-- the request held this connection: it opened it, or was lent it
abbrev pub is_had : ℕ → GoNote → Bool
is_had connection (go.Open opened) = opened == connection
is_had connection (go.Lent lent) = lent == connection
is_had connection _ = false

abbrev pub has_held : List Step → Link → Bool
has_held steps link = list_any (λ step. is_had link.connection step.did) steps

abbrev pub ended_of : List Step → Option Link → ℕ
ended_of steps None = 0
ended_of steps (Some link) = if has_held steps link then link.ended else 0

abbrev pub submitted_at : Fact → Option ℕ
submitted_at (Submitted call index tick) = Some tick
submitted_at (Showed call answers) = None

abbrev pub first_tick : List Fact → Option ℕ
first_tick facts = first_item (filter_map submitted_at facts)

abbrev pub is_set : Call → Bool
is_set (call.Set name value) = true
is_set _ = false

abbrev pub is_set_shown : Fact → Bool
is_set_shown (Submitted call index tick) = false
is_set_shown (Showed call answers) = is_set call

abbrev pub says_uncommitted : Outcome → Bool
says_uncommitted outcome = not outcome.committed

-- the outcomes that these steps took
abbrev pub outcomes_of : List Step → List Outcome
outcomes_of steps = filter_map outcome_at steps

abbrev pub at_outcome : ServiceOf → Past → Step → Outcome → AtOutcome
at_outcome service past step outcome =
    let facts : List Fact = reverse past.facts in
    let after : Course = after_step past.before step in
    record {
      outcome = outcome;
      ended = ended_of past.steps step.lost;
      tick = step.tick;
      reason = reason_of service facts;
      uncommitted = count_by says_uncommitted (outcomes_of past.steps);
      first = first_tick facts;
      index = after.index;
      follows = not (is_empty after.unshown);
      set_shown = list_any is_set_shown (past.facts ++ facts_at past.before step);
    }

-- 2. Incomplete(x): o = [x,true,false].
abbrev pub incomplete_line : AtOutcome → Option Failure
incomplete_line at = if at.outcome.committed && not at.outcome.completed then
    Some (failure.Incomplete at.outcome.ltxid) else None

-- 3. Disabled(StateLost(i), e): o = [x,true,true], call i - 1 was shown by it, call i exists, a
-- `set` was shown in this request, and the rule keeps no settings.
abbrev pub state_lost_line : ServiceOf → AtOutcome → Option Failure
state_lost_line service at =
    if at.outcome.committed && (at.outcome.completed
    && (at.follows && (at.set_shown && not (keeps_settings service.failover))))
    then Some (failure.Disabled (reason.StateLost at.index) at.ended) else None

-- 4. Disabled(why, e): o = [x,false,false], and `why` is the reason at the step that took o.
abbrev pub disabled_if : Bool → Option Reason → ℕ → Option Failure
disabled_if true (Some why) ended = Some (failure.Disabled why ended)
disabled_if _ _ ended = None

abbrev pub disabled_line : AtOutcome → Option Failure
disabled_line at = disabled_if (says_uncommitted at.outcome) at.reason at.ended

-- no reason, and the outcome says committed false
abbrev pub may_replay : AtOutcome → Bool
may_replay at = says_uncommitted at.outcome && is_none at.reason

-- 5. Replays(n, e): no reason; n = replays; the request's outcomes hold n + 1 with committed false,
-- o the last of them.
abbrev pub replays_line : ServiceOf → AtOutcome → Option Failure
replays_line service at =
    if may_replay at && (at.uncommitted == service.replays + 1) then
    Some (failure.Replays service.replays at.ended) else None

-- 6. ReplayTimeout(f, g): no reason; at most `replays` such outcomes, o the last of them; a call
-- was submitted, first at tick f; o was taken at tick g; g - f > timeout.
abbrev pub timeout_by : ServiceOf → ℕ → Option ℕ → Option Failure
timeout_by service now None = None
timeout_by service now (Some first) = if nat_lt service.timeout (now - first) then
    Some (failure.ReplayTimeout first now) else None

abbrev pub timeout_line : ServiceOf → AtOutcome → Option Failure
timeout_line service at = if may_replay at && nat_le at.uncommitted service.replays then
    timeout_by service at.tick at.first else None

-- the lines that are judged at the step that took the outcome, of which at most one holds
abbrev pub outcome_lines : ServiceOf → AtOutcome → Option Failure
outcome_lines service at =
    option_or (incomplete_line at)
    (option_or (state_lost_line service at)
    (option_or (disabled_line at)
    (option_or (replays_line service at)
    (timeout_line service at))))

-- ---- replies

-- 7. Mismatch(i, seen, now): the shown answers of call i have digest `seen`; the session served
-- call i with the mark, with answers of digest `now`, and this reply was taken; the two differ.
-- (Equal answers have equal digests.)
abbrev pub mismatch_by : ℕ → List ℕ → List ℕ → Option Failure
mismatch_by index seen now = if bytes_eq seen now then None else
    Some (failure.Mismatch index seen now)

abbrev pub mismatch_of : Bool → ℕ → List Answer → List Answer → Option Failure
mismatch_of true index seen now = None
mismatch_of false index seen now = mismatch_by index (digest seen) (digest now)

abbrev pub mismatch_at : ℕ → Option ShownCall → List Answer → Option Failure
mismatch_at index None now = None
mismatch_at index (Some shown) now = mismatch_of (same_answers shown.answers now) index
    shown.answers now

-- the call that is replayed: so many before the first that was not shown as are to be replayed
-- still
abbrev pub replayed_index : Course → ℕ
replayed_index course = course.index - course.behind

abbrev pub mismatch_line : Submission → Course → List Answer → Option Failure
mismatch_line submission course now = mismatch_at (replayed_index course)
    (slice_get submission.copy.calls (replayed_index course)) now

-- 9. Unknown(x): the request's last session served an `outcome` item for x that says forgotten, and
-- this reply was taken.
abbrev pub unknown_line : Ltxid → Option Failure
unknown_line x = Some (failure.Unknown x)

-- ---- the line that holds at a step

abbrev pub line_at_outcome : ServiceOf → Past → Step → Option Outcome → Option Failure
line_at_outcome service past step None = None
line_at_outcome service past step (Some outcome) =
    outcome_lines service (at_outcome service past step outcome)

abbrev pub line_at_item : ServiceOf → Submission → Past → Step → Item → Option Failure
line_at_item service submission past step (item.Call true call answers draws) =
    mismatch_line submission past.before answers
line_at_item service submission past step (item.Outcome x (told.Forgotten horizon)) = unknown_line x
line_at_item service submission past step (item.Outcome x result) =
    line_at_outcome service past step (outcome_told (item.Outcome x result))
line_at_item service submission past step _ = None

abbrev pub line_at_taking : ServiceOf → Submission → Past → Step → Option Served → Option Failure
line_at_taking service submission past step None = None
line_at_taking service submission past step (Some one) =
    line_at_item service submission past step one.item

abbrev pub line_at : ServiceOf → Submission → Past → Step → GoNote → Option Failure
line_at service submission past step go.Down = retries_line service past.steps
line_at service submission past step go.Wait =
    pool_wait_line service past.begun step.tick past.steps
line_at service submission past step (go.Took connection sent) =
    line_at_taking service submission past step step.taken
line_at service submission past step _ = None
