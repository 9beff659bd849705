-- What a request was shown its sessions served, what it sent lies in rows of its script,
-- what it lost ends with its own, and what was answered of an identifier stands.
use Rattle.std.specs.Prelude.{ℕ, ◌+◌, ◌==◌, ◌&&◌, ◌||◌, Bool, true, false, if◌then◌else◌, IsTrue, List, [], ◌∷◌, length, filter, take, slice_get, Option, Some, None}
use Rattle.std.specs.List.{list_all, list_any}
use Rattle.std.specs.Option.{option_map_or}
use Rattle.svc_values.specs.declared.answer.Answer.TheVariants as answer
use Rattle.svc_values.specs.declared.call.Call.{Call}
use Rattle.svc_values.specs.declared.frame.Up.{Up}
use Rattle.svc_values.specs.declared.frame.Up.TheVariants as up
use Rattle.svc_values.specs.meaning.Calls.{is_lone_commit}
use Rattle.svc_values.specs.meaning.Same.{same_answers, same_bool, same_call, same_draws}
use Rattle.outage_schedule.specs.declared.item.Item.{Item}
use Rattle.outage_schedule.specs.declared.item.Item.TheVariants as item
use Rattle.outage_schedule.specs.declared.request.ShownCall.{ShownCall}
use Rattle.world_model.specs.meaning.Frames.{Sent, Handled}
use Rattle.world_model.specs.meaning.Links.{Link, link_at}
use Rattle.invariant_laws.specs.Lost.{lost_links}
use Rattle.world_model.specs.Traced.{Traced, Course, courses_of}
use Rattle.world_model.specs.records.Script.{recorded_from}
use Rattle.world_model.specs.Sames.{owned_by}
use Rattle.run_clauses.specs.meaning.Tried.{holds}
use Rattle.world_model.specs.Words.{held_in}
use Rattle.world_model.specs.Parts.{implies, is_unmarked, out_frame}
use Rattle.outage_schedule.specs.declared.note.AskResult.{AskResult}
use Rattle.outage_schedule.specs.declared.note.AskResult.TheVariants as told
use Rattle.outage_schedule.specs.declared.request.Outcome.{Outcome}
use Rattle.run_clauses.specs.meaning.Outcomes.{completed_of}

-- S6: WHERE A SHOWN CALL IS FROM ------------------------------------------------------------------

abbrev pub is_shown_item : Call → ShownCall → Item → Bool
is_shown_item call shown (item.Call false served answers draws) =
    same_call served call && (same_answers answers shown.answers && same_draws draws shown.draws)
is_shown_item call shown _ = false

-- on this connection, an item of this call of this request, under this identifier (the one after
-- it)
abbrev pub item_shows : Course → ℕ → Call → ShownCall → Handled → Bool
item_shows course index call shown one =
    owned_by course.owner one.sent && ((one.sent.call == index)
    && is_shown_item call shown one.served.item)

abbrev pub link_shows : Traced → Course → ℕ → Call → ShownCall → ℕ → Bool
link_shows t course index call shown number =
    option_map_or (λ link. list_any (item_shows course index call shown) link.served)
    (link_at t.machine.links number) false

-- or a lone commit, shown as committed and without a value, and an outcome was taken that says
-- committed and completed, of an identifier under which the request tried
abbrev pub shows_commit : ShownCall → Bool
shows_commit shown = same_answers shown.answers (answer.Committed ∷ []) && (length shown.draws == 0)

abbrev pub has_completed : Course → Bool
has_completed course = list_any (λ outcome. outcome.committed
    && (outcome.completed && list_any (λ ids. holds ids outcome.ltxid) course.report.tried))
    course.report.outcomes

abbrev pub is_from : Bool → Traced → Course → ℕ → Option Call → ShownCall → Bool
is_from completed t course index None shown = false
is_from completed t course index (Some call) shown =
    list_any (link_shows t course index call shown) (held_in course.steps)
    || (is_lone_commit call && (shows_commit shown && completed))

abbrev pub all_from : Bool → Traced → Course → ℕ → List ShownCall → Bool
all_from completed t course index [] = true
all_from completed t course index (shown ∷ others) =
    is_from completed t course index (slice_get course.request.calls index) shown
    && all_from completed t course (index + 1) others

abbrev pub are_from : Traced → Bool
are_from t = list_all (λ course. all_from (has_completed course) t course 0 course.report.calls)
    (courses_of t)

-- S7: A SEGMENT -----------------------------------------------------------------------------------

abbrev pub is_call : Up → Bool
is_call (up.Call replay kept call) = true
is_call _ = false

-- the calls that a request sent on a connection
abbrev pub calls_on : Course → Link → List Sent
calls_on course link = filter (λ sent. owned_by course.owner sent && is_call sent.frame) link.sent

abbrev pub is_marked : Up → Bool
is_marked (up.Call true kept call) = true
is_marked _ = false

abbrev pub first_of : List Sent → Option Sent
first_of [] = None
first_of (sent ∷ others) = Some sent

abbrev pub in_row : ℕ → List Sent → Bool
in_row index [] = true
in_row index (sent ∷ others) = (sent.call == index) && in_row (index + 1) others

-- each call that is sent is the script's of its index
abbrev pub is_scripts : Course → Sent → Up → Bool
is_scripts course sent (up.Call replay kept call) =
    option_map_or (same_call call) (slice_get course.request.calls sent.call) false
is_scripts course sent _ = true

-- The calls that a request sent on a connection are of indices in a row. The marked ones come first
-- (wire3). They begin at j for the call that was sent behind them; and while none was, for the
-- calls shown so far, as long as the request has the connection. (Of a replay that was lost before
-- its last verification nothing is said: the call may be shown later, and j moves.)
abbrev pub marked_from : Course → List Sent → ℕ → Bool
marked_from course [] next = true
marked_from course (first ∷ others) next =
    implies (is_marked first.frame) (first.call == recorded_from (take next course.report.calls))

abbrev pub has_unmarked : List Sent → Bool
has_unmarked calls = list_any is_unmarked calls

abbrev pub is_current : Course → ℕ → Bool
is_current course number = option_map_or (λ other. other == number) course.connection false

abbrev pub first_unmarked : Course → List Sent → ℕ
first_unmarked course [] = length course.report.calls
first_unmarked course (sent ∷ others) = if is_marked sent.frame then
    first_unmarked course others else sent.call

abbrev pub unmarked_first : Course → List Sent → Bool
unmarked_first course [] = true
unmarked_first course (first ∷ others) =
    is_marked first.frame || (first.call == recorded_from (take first.call course.report.calls))

abbrev pub is_row : Course → Bool → List Sent → Bool
is_row course current calls = in_row (option_map_or (λ sent. sent.call) (first_of calls) 0) calls
    && (list_all (λ sent. is_scripts course sent sent.frame) calls
    && (implies (current || has_unmarked calls)
    (marked_from course calls (first_unmarked course calls)) && unmarked_first course calls))

abbrev pub rows_on : Traced → Course → Bool
rows_on t course = list_all (λ number. option_map_or
    (λ link. is_row course (is_current course number) (calls_on course link))
    (link_at t.machine.links number) false) (held_in course.steps)

abbrev pub in_rows : Traced → Bool
in_rows t = list_all (rows_on t) (courses_of t)

-- WHAT IS LOST ------------------------------------------------------------------------------------

-- on a connection that it lost, the answered frame that was sent last is its own
abbrev pub ends_own : Course → Link → Bool
ends_own course link = option_map_or (owned_by course.owner) (out_frame link) false

abbrev pub loses_own : List Link → Course → Bool
loses_own links course = list_all (λ number. option_map_or (ends_own course) (link_at links number)
    false) (lost_links course)

abbrev pub lose_own : Traced → Bool
lose_own t = list_all (loses_own t.machine.links) (courses_of t)

-- ANSWERS -----------------------------------------------------------------------------------------

-- what was answered of an identifier stands: uncommitted, it is blocked; committed, its entry is
-- there; and no other answer but forgotten
abbrev pub stands : Traced → Item → Bool
stands t (item.Outcome x told.Uncommitted) = holds t.blocked x
stands t (item.Outcome x (told.Committed completed)) =
    option_map_or (same_bool completed) (completed_of t.entries x) false
stands t (item.Outcome x (told.Forgotten horizon)) = true
stands t (item.Outcome x other) = false
stands t one = true

abbrev pub answers_stand : Traced → Bool
answers_stand t = list_all (λ link. list_all (λ one. stands t one.served.item) link.served)
    t.machine.links

-- and so does each outcome that a request took
abbrev pub told_as : Outcome → AskResult
told_as outcome = if outcome.committed then told.Committed outcome.completed else told.Uncommitted

abbrev pub outcome_stands : Traced → Outcome → Bool
outcome_stands t outcome = stands t (item.Outcome outcome.ltxid (told_as outcome))

abbrev pub outcomes_stand : Traced → Bool
outcomes_stand t = list_all (λ course. list_all (outcome_stands t) course.report.outcomes)
    (courses_of t)

pub record Shown (t : Traced) : Type 0 where
  pub shown : IsTrue (are_from t)
  pub rows : IsTrue (in_rows t)
  pub own : IsTrue (lose_own t)
  pub answers : IsTrue (answers_stand t)
  pub outcomes : IsTrue (outcomes_stand t)
