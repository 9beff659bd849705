-- Of each connection that a request lost.
use Rattle.std.specs.Prelude.{ℕ, ◌+◌, ◌==◌, ◌&&◌, ◌||◌, Bool, true, false, not, cond, nat_le, if◌then◌else◌, IsTrue, List, [], ◌∷◌, length, filter, slice_get, Option, Some, None, is_some, is_none}
use Rattle.std.specs.List.{list_all, list_any, last_or}
use Rattle.std.specs.Option.{option_map_or}
use Rattle.svc_values.specs.declared.entry.Ltxid.{Ltxid}
use Rattle.svc_values.specs.meaning.Endings.{ends_committed}
use Rattle.svc_values.specs.meaning.Identifiers.{same_ltxid}
use Rattle.outage_schedule.specs.declared.failure.Failure.{Failure}
use Rattle.outage_schedule.specs.declared.failure.Failure.TheVariants as failure
use Rattle.outage_schedule.specs.declared.request.Outcome.{Outcome}
use Rattle.run_clauses.specs.meaning.Outcomes.{completed_of}
use Rattle.svc_values.specs.meaning.Same.{same_bool}
use Rattle.svc_values.specs.declared.frame.Up.{Up}
use Rattle.svc_values.specs.declared.frame.Up.TheVariants as up
use Rattle.world_model.specs.meaning.Frames.{Sent}
use Rattle.world_model.specs.meaning.Links.{Link, link_at}
use Rattle.world_model.specs.Traced.{Traced, Course, courses_of}
use Rattle.world_model.specs.Sames.{owned_by}
use Rattle.run_clauses.specs.meaning.Tried.{holds}
use Rattle.world_model.specs.Wanted.{Wanted, wanted_in}
use Rattle.world_model.specs.Words.{held_in}
use Rattle.world_model.specs.Parts.{implies, sendings_of, number_of, held_number, is_commit_call, is_unmarked, is_out, out_frame}

-- the connections that a request lost: all that it held, but the one that it has, and where it is
-- over and did not lose its last one, but that
abbrev pub without_last : List ℕ → List ℕ
without_last [] = []
without_last (number ∷ []) = []
without_last (number ∷ next ∷ others) = number ∷ without_last (next ∷ others)

-- it ended by tries that failed: it had lost all connections
abbrev pub lost_all : Option Failure → Bool
lost_all (Some (failure.Retries tries)) = true
lost_all _ = false

abbrev pub has_last : Course → Bool
has_last course = if course.is_over then not (lost_all course.report.failed) else
    is_some course.connection

abbrev pub lost_links : Course → List ℕ
lost_links course = if has_last course then without_last (held_in course.steps) else held_in
    course.steps

-- it ended without knowing: no outcome of what it lost last was taken
abbrev pub ends_unknown : Option Failure → Bool
ends_unknown (Some (failure.Retries tries)) = true
ends_unknown (Some (failure.Unknown x)) = true
ends_unknown _ = false

-- the outcome of it that was taken
abbrev pub outcome_on : Course → Option Ltxid → Option Outcome
outcome_on course None = None
outcome_on course (Some x) = last_or None
    (filter (λ outcome. same_ltxid outcome.ltxid x) course.report.outcomes)

-- L0: a connection that was lost is no longer open, and no request has it
abbrev pub is_without : ℕ → Course → Bool
is_without number course = option_map_or (λ other. not (other == number)) course.connection true

abbrev pub is_gone : List Link → List Course → ℕ → Bool
is_gone links courses number = option_map_or (λ link. not link.is_open) (link_at links number) false
    && list_all (is_without number) courses

abbrev pub stay_gone : Traced → Bool
stay_gone t = list_all (λ course. list_all (is_gone t.machine.links (courses_of t))
    (lost_links course)) (courses_of t)

-- L1 ----------------------------------------------------------------------------------------------

abbrev pub submitted_on : Course → Link → Bool
submitted_on course link = list_any (λ sent. owned_by course.owner sent && is_unmarked sent)
    link.sent

abbrev pub is_nothing : Course → Link → Bool
is_nothing course link = is_none (outcome_on course link.held) && not (submitted_on course link)

abbrev pub same_event : Option ℕ → ℕ → Bool
same_event ended event = option_map_or (λ one. one == event) ended false

abbrev pub is_wanted : Link → Wanted → Bool
is_wanted link wanted = option_map_or (same_ltxid wanted.ltxid) link.held false
    && same_event link.ended wanted.event

abbrev pub is_pending : Course → Link → Bool
is_pending course link =
    is_none (outcome_on course link.held)
    && (if course.is_over then ends_unknown course.report.failed else
    option_map_or (is_wanted link) (wanted_in course.phase) false)

abbrev pub is_blocked : Traced → Course → Link → Bool
is_blocked t course link = option_map_or (λ outcome. not outcome.committed
    && holds t.blocked outcome.ltxid) (outcome_on course link.held) false

-- nothing is left that could commit again
abbrev pub nothing_left : Link → Bool
nothing_left link = not (list_any is_commit_call link.up)

abbrev pub is_stored : Traced → Course → Link → Bool
is_stored t course link =
    option_map_or (λ outcome. outcome.committed
    && option_map_or (same_bool outcome.completed) (completed_of t.entries outcome.ltxid) false)
    (outcome_on course link.held) false
    && ((number_of t.entries link == held_number link + 1) && nothing_left link)

abbrev pub is_settled : Traced → Course → Link → Bool
is_settled t course link = is_nothing course link
    || (is_pending course link || (is_blocked t course link || is_stored t course link))

-- each is no longer open, and one of the four
abbrev pub is_lost : Traced → Course → Link → Bool
is_lost t course link = not link.is_open && is_settled t course link

abbrev pub lost_rightly : Traced → Course → Bool
lost_rightly t course = list_all (λ number. option_map_or (is_lost t course)
    (link_at t.machine.links number) false) (lost_links course)

abbrev pub are_lost : Traced → Bool
are_lost t = list_all (lost_rightly t) (courses_of t)

-- L2: at most one is pending and has a call sent; while one is asked for, it is that of a
-- connection that was lost
abbrev pub open_ends : Traced → Course → List ℕ
open_ends t course =
    filter (λ number. option_map_or (λ link. is_none (outcome_on course link.held)
    && submitted_on course link) (link_at t.machine.links number) false) (lost_links course)

abbrev pub is_asked_for : Traced → Course → Wanted → Bool
is_asked_for t course wanted = list_any (λ number. option_map_or (λ link. is_wanted link wanted)
    (link_at t.machine.links number) false) (lost_links course)

abbrev pub wants_lost : Traced → Course → Bool
wants_lost t course = option_map_or (is_asked_for t course) (wanted_in course.phase) true

abbrev pub want_lost : Traced → Bool
want_lost t = list_all (wants_lost t) (courses_of t)

-- and if a frame is out there, and is a call without the mark, it is the one behind the calls shown
-- so far
abbrev pub is_next : ℕ → Link → Bool
is_next count link = implies (is_out link)
    (option_map_or (λ sent. implies (is_unmarked sent) (sent.call == count)) (out_frame link) true)

abbrev pub is_asked_next : Traced → Course → Wanted → Bool
is_asked_next t course wanted =
    list_any (λ number. option_map_or (λ link. is_wanted link wanted
    && is_next (length course.report.calls) link) (link_at t.machine.links number) false)
    (lost_links course)

abbrev pub wants_next : Traced → Course → Bool
wants_next t course = option_map_or (is_asked_next t course) (wanted_in course.phase) true

abbrev pub want_next : Traced → Bool
want_next t = list_all (wants_next t) (courses_of t)

abbrev pub one_pending : Traced → Course → Bool
one_pending t course =
    nat_le (length (open_ends t course))
    (if course.is_over then cond (ends_unknown course.report.failed) 1 0 else
    cond (is_some (wanted_in course.phase)) 1 0)
    && wants_lost t course

abbrev pub are_pending : Traced → Bool
are_pending t = list_all (one_pending t) (courses_of t)

-- L3: stored and not completed, the request failed so; stored and completed, the call was shown
abbrev pub fails_incomplete : Ltxid → Option Failure → Bool
fails_incomplete x (Some (failure.Incomplete y)) = same_ltxid x y
fails_incomplete x _ = false

abbrev pub is_failed_by : Course → Outcome → Bool
is_failed_by course outcome = implies (outcome.committed && not outcome.completed)
    (fails_incomplete outcome.ltxid course.report.failed)

abbrev pub fail_incomplete : Traced → Bool
fail_incomplete t = list_all (λ course. list_all (is_failed_by course) course.report.outcomes)
    (courses_of t)

abbrev pub shows_sent : Course → Ltxid → Bool
shows_sent course x =
    list_any (λ sending. same_ltxid sending.ltxid x
    && option_map_or (λ shown. ends_committed shown.answers)
    (slice_get course.report.calls sending.at) false) (sendings_of course)

abbrev pub is_told : Course → Outcome → Bool
is_told course outcome = not outcome.committed
    || (if outcome.completed then shows_sent course outcome.ltxid else
    fails_incomplete outcome.ltxid course.report.failed)

abbrev pub are_told : Traced → Bool
are_told t = list_all (λ course. list_all (is_told course) course.report.outcomes) (courses_of t)

-- L3b: each outcome that was taken is that of a lost connection's identifier
abbrev pub is_of_lost : Traced → Course → Outcome → Bool
is_of_lost t course outcome = list_any (λ number.
    option_map_or (λ link. option_map_or (same_ltxid outcome.ltxid) link.held false)
    (link_at t.machine.links number) false) (lost_links course)

abbrev pub outcomes_lost : Traced → Bool
outcomes_lost t = list_all (λ course. list_all (is_of_lost t course) course.report.outcomes)
    (courses_of t)

-- L4: the identifier that the request goes by was not asked for by itself
abbrev pub goes_unasked : Traced → Course → Bool
goes_unasked t course = option_map_or (λ number.
    option_map_or (λ link. is_none (outcome_on course link.held)) (link_at t.machine.links number)
    false) course.connection true

abbrev pub go_unasked : Traced → Bool
go_unasked t = list_all (goes_unasked t) (courses_of t)

-- L5: each Outcome that a request sent asks the identifier held on a connection that it lost
abbrev pub asks_lost : Traced → Course → Sent → Up → Bool
asks_lost t course sent (up.Outcome x) =
    not (owned_by course.owner sent) || list_any (λ number.
    option_map_or (λ link. option_map_or (same_ltxid x) link.held false)
    (link_at t.machine.links number) false) (lost_links course)
asks_lost t course sent _ = true

abbrev pub asks_rightly : Traced → Course → Link → Bool
asks_rightly t course link = list_all (λ sent. asks_lost t course sent sent.frame) link.sent

abbrev pub ask_rightly : Traced → Bool
ask_rightly t = list_all (λ course. list_all (asks_rightly t course) t.machine.links) (courses_of t)

-- L6: a request that is over and did not lose its last connection left no call there
abbrev pub is_its_call : Course → Sent → Bool
is_its_call course sent = owned_by course.owner sent && is_unmarked sent

abbrev pub left_none : Traced → Course → Bool
left_none t course =
    not (course.is_over && has_last course)
    || option_map_or (λ number. option_map_or (λ link. not (list_any (is_its_call course) link.up))
    (link_at t.machine.links number) false) (last_or None (held_in course.steps)) true

abbrev pub leave_none : Traced → Bool
leave_none t = list_all (left_none t) (courses_of t)

-- L7: the event of an error is that which ended the connection whose identifier was asked last
abbrev pub event_of : Option Failure → Option ℕ
event_of (Some (failure.Disabled why event)) = Some event
event_of (Some (failure.Replays limit event)) = Some event
event_of _ = None

abbrev pub ended_by : Traced → Course → ℕ → Outcome → Bool
ended_by t course event outcome =
    list_any (λ number. option_map_or (λ link. is_wanted link (record {
      ltxid = outcome.ltxid;
      event = event;
    })) (link_at t.machine.links number) false) (lost_links course)

abbrev pub has_event : Traced → Course → Bool
has_event t course = option_map_or (λ event. option_map_or (ended_by t course event)
    (last_or None course.report.outcomes) false) (event_of course.report.failed) true

abbrev pub have_events : Traced → Bool
have_events t = list_all (has_event t) (courses_of t)

pub record Lost (t : Traced) : Type 0 where
  pub gone : IsTrue (stay_gone t)
  pub lost : IsTrue (are_lost t)
  pub pending : IsTrue (are_pending t)
  pub next : IsTrue (want_next t)
  pub told : IsTrue (are_told t)
  pub outcomes : IsTrue (outcomes_lost t)
  pub unasked : IsTrue (go_unasked t)
  pub asks : IsTrue (ask_rightly t)
  pub left : IsTrue (leave_none t)
  pub events : IsTrue (have_events t)
