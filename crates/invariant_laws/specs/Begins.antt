-- With what settings a request begins on each connection, and its transactions.
use Rattle.std.specs.Prelude.{ℕ, ◌+◌, ◌==◌, ◌&&◌, Bool, true, false, if◌then◌else◌, List, [], ◌∷◌, fold, take, Option, Some, None, is_none}
use Rattle.std.specs.List.{list_all, list_any}
use Rattle.std.specs.Option.{option_map_or}
use Rattle.svc_values.specs.declared.frame.Up.{Up}
use Rattle.svc_values.specs.declared.frame.Up.TheVariants as up
use Rattle.svc_values.specs.meaning.SettingsList.{NamedValues, same_settings, with_sets}
use Rattle.outage_schedule.specs.declared.document.Request.{Request}
use Rattle.outage_schedule.specs.declared.item.Item.{Item}
use Rattle.outage_schedule.specs.declared.item.Item.TheVariants as item
use Rattle.world_model.specs.meaning.Frames.{Sent}
use Rattle.world_model.specs.meaning.Links.{Link}
use Rattle.world_model.specs.Parts.{implies}
use Rattle.invariant_laws.specs.Same.{ServedCall, Ran, first_call, ran_by, test_at}
use Rattle.world_model.specs.Sames.{owned_by, same_owners}
use Rattle.invariant_laws.specs.Shown.{is_call}
use Rattle.world_model.specs.Traced.{Traced, Course, courses_of}
use Rattle.world_model.specs.Words.{held_in}

-- the request's settings, changed by each `set` before the call of this index, in order
abbrev pub settings_before : Request → ℕ → NamedValues
settings_before request index = with_sets request.settings (take index request.calls)

-- BEGIN -------------------------------------------------------------------------------------------

-- a Begin has the index of the call that follows it, and carries the settings before that
abbrev pub carries_settings : Request → ℕ → Up → Bool
carries_settings request index (up.Begin settings) =
    same_settings settings (settings_before request index)
carries_settings request index _ = true

abbrev pub carries_on : Course → Link → Bool
carries_on course link = list_all (λ sent. implies (owned_by course.owner sent)
    (carries_settings course.request sent.call sent.frame)) link.sent

abbrev pub carry_settings : Traced → Bool
carry_settings t = list_all (λ course. list_all (carries_on course) t.machine.links) (courses_of t)

-- the call follows at once
abbrev pub is_begin_frame : Up → Bool
is_begin_frame (up.Begin settings) = true
is_begin_frame _ = false

abbrev pub begin_in : Sent → Option Sent
begin_in sent = if is_begin_frame sent.frame then Some sent else None

abbrev pub follows_begin : Sent → Sent → Bool
follows_begin begin sent = is_call sent.frame
    && ((sent.call == begin.call) && same_owners begin.owner sent.owner)

abbrev pub followed_at_once : Option Sent → List Sent → Bool
followed_at_once begin [] = is_none begin
followed_at_once begin (sent ∷ sents) = option_map_or (λ one. follows_begin one sent) begin true
    && followed_at_once (begin_in sent) sents

abbrev pub begins_followed : Link → Bool
begins_followed link = followed_at_once None link.sent

abbrev pub are_followed : Traced → Bool
are_followed t = list_all begins_followed t.machine.links

-- TRANSACTIONS ------------------------------------------------------------------------------------

-- a transaction with a call of the request starts with the settings before its first call
abbrev pub has_start : Course → List ServedCall → NamedValues → Bool
has_start course dids start = implies (list_any (λ did. owned_by course.owner did.sent) dids)
    (same_settings start (settings_before course.request (first_call dids 0)))

abbrev pub have_starts : Course → List (List ServedCall) → List NamedValues → Bool
have_starts course [] [] = true
have_starts course (dids ∷ over) (start ∷ starts) =
    has_start course dids start && have_starts course over starts
have_starts course _ _ = false

abbrev pub starts_rightly : Course → Link → Bool
starts_rightly course link = have_starts course (ran_by link).over (ran_by link).starts
    && has_start course (ran_by link).pieces (ran_by link).at_start

-- each transaction on a connection that the request held: those that are over, and the open one
abbrev pub transactions_start : Traced → Bool
transactions_start t = list_all (λ course. list_all (test_at t (starts_rightly course))
    (held_in course.steps)) (courses_of t)

-- SESSIONS ----------------------------------------------------------------------------------------

-- the call of the request that its session serves next, from the request's Begin to its End
abbrev pub next_behind : Course → Option ℕ → Sent → Item → Option ℕ
next_behind course next sent (item.Begin settings) =
    if owned_by course.owner sent then Some sent.call else None
next_behind course next sent item.End = None
next_behind course next sent (item.Call marked call answers draws) =
    if owned_by course.owner sent then Some (sent.call + 1) else next
next_behind course next sent _ = next

abbrev pub next_on : Course → Link → Option ℕ
next_on course link = fold (λ next one. next_behind course next one.sent one.served.item) None
    link.served

-- it has the settings before that call, and its open transaction started with those before its
-- first call, or before that one
abbrev pub stands_before : Course → Ran → ℕ → Bool
stands_before course ran next = same_settings ran.settings (settings_before course.request next)
    && same_settings ran.at_start (settings_before course.request (first_call ran.pieces next))

abbrev pub session_stands : Course → Link → Bool
session_stands course link = option_map_or (stands_before course (ran_by link))
    (next_on course link) true

-- each session that serves the request, on a connection that it held
abbrev pub sessions_stand : Traced → Bool
sessions_stand t = list_all (λ course. list_all (test_at t (session_stands course))
    (held_in course.steps)) (courses_of t)
