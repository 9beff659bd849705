-- Ticks, events, and which connections and sessions there are.
use Rattle.std.specs.Prelude.{ℕ, ◌+◌, ◌==◌, ◌&&◌, ◌||◌, Bool, true, false, not, nat_lt, nat_le, IsTrue, List, [], ◌∷◌, length, map, filter_map, flat_map, count_by, Option, None, is_some, is_none}
use Rattle.std.specs.List.{list_all, list_any}
use Rattle.std.specs.Option.{option_map_or}
use Rattle.svc_values.specs.declared.entry.SessionId.{SessionId}
use Rattle.outage_schedule.specs.declared.item.Item.{Item}
use Rattle.outage_schedule.specs.declared.item.Item.TheVariants as item
use Rattle.svc_values.specs.meaning.Identifiers.{same_session, session_of}
use Rattle.svc_values.specs.meaning.Same.{same_bool}
use Rattle.client_model.specs.meaning.Terms.{Phase, Queued}
use Rattle.client_model.specs.Laws.{track_of}
use Rattle.world_model.specs.meaning.Frames.{Handled}
use Rattle.world_model.specs.meaning.Links.{Link}
use Rattle.world_model.specs.meaning.Clients.{Doing}
use Rattle.world_model.specs.meaning.Serving.{is_commit, is_last}
use Rattle.world_model.specs.Traced.{Traced, Course, courses_of}
use Rattle.world_model.specs.Sames.{rise, each_pair}
use Rattle.world_model.specs.Parts.{is_closed, implies}
use Rattle.world_model.specs.Wanted.{wanted_in}

-- TICKS AND EVENTS --------------------------------------------------------------------------------

-- the steps of a request are of events and ticks so far, in order: two steps may be of one event
abbrev pub steps_rise : Traced → Course → Bool
steps_rise t course =
    list_all (λ step. nat_le step.event t.machine.event && nat_le step.done.now t.machine.tick)
    course.steps
    && (rise (map (λ step. step.event) course.steps)
    && rise (map (λ step. step.done.now) course.steps))

abbrev pub have_risen : Traced → Bool
have_risen t = list_all (steps_rise t) (courses_of t)

abbrev pub at_most : ℕ → Option ℕ → Bool
at_most limit number = option_map_or (λ one. nat_le one limit) number true

-- the tick from which it waits
abbrev pub waits_from : Phase → Option ℕ
waits_from (Queued from) = from
waits_from _ = None

abbrev pub keeps_ticks : Traced → Doing → Bool
keeps_ticks t doing =
    at_most t.machine.tick doing.talk.last_try
    && (at_most t.machine.tick (waits_from doing.talk.phase)
    && (option_map_or (λ track. at_most t.machine.tick track.first) (track_of doing.talk.phase) true
    && option_map_or (λ wanted. nat_le wanted.event t.machine.event) (wanted_in doing.talk.phase)
    true))

abbrev pub kept_ticks : Traced → Bool
kept_ticks t = list_all (λ client. option_map_or (keeps_ticks t) client.now true) t.machine.clients

-- ITEMS -------------------------------------------------------------------------------------------

abbrev pub item_events : Link → List ℕ
item_events link = map (λ one. one.served.event) link.served

-- the items of a connection are in the order of their events, which are past
abbrev pub items_rise : Traced → Bool
items_rise t = list_all (λ link. each_pair nat_lt (item_events link)
    && list_all (λ event. nat_le event t.machine.event) (item_events link)) t.machine.links

-- an event has one item
abbrev pub items_differ : Traced → Bool
items_differ t = each_pair (λ a b. not (a == b)) (flat_map item_events t.machine.links)

-- CONNECTIONS -------------------------------------------------------------------------------------

-- while the server is down none is open and no session lives
abbrev pub is_down : Traced → Bool
is_down t = t.machine.server.is_up || list_all (λ link. not link.is_open && not link.is_living)
    t.machine.links

-- it is open as long as no event ended it; one that is closed or was cut is not open; the session
-- of one that is open lives
abbrev pub ends_rightly : Traced → Link → Bool
ends_rightly t link =
    same_bool link.is_open (is_none link.ended)
    && (at_most t.machine.event link.ended
    && (implies (is_closed link || link.is_cut) (not link.is_open)
    && implies link.is_open link.is_living))

abbrev pub are_ended : Traced → Bool
are_ended t = list_all (ends_rightly t) t.machine.links

-- SESSIONS ----------------------------------------------------------------------------------------

abbrev pub sessions_of : Traced → List SessionId
sessions_of t = filter_map (λ link. link.session) t.machine.links

-- no two are the same, nor is one that of an `outside`
abbrev pub sessions_differ : Traced → Bool
sessions_differ t = each_pair (λ a b. not (same_session a b)) (sessions_of t)
    && list_all (λ session. not (list_any (same_session session) t.outside)) (sessions_of t)

-- those of the incarnation are numbered from 1, and each is of one up to it
abbrev pub is_made : Traced → SessionId → Bool
is_made t session =
    nat_lt 0 session.session
    && (nat_lt session.incarnation t.machine.server.incarnation
    || ((session.incarnation == t.machine.server.incarnation)
    && nat_le session.session t.machine.server.sessions))

abbrev pub are_made : Traced → Bool
are_made t = list_all (is_made t) (sessions_of t) && list_all (is_made t) t.outside

abbrev pub of_incarnation : Traced → List SessionId → ℕ
of_incarnation t sessions = count_by (λ session. session.incarnation ==
    t.machine.server.incarnation) sessions

abbrev pub are_counted : Traced → Bool
are_counted t = t.machine.server.sessions == of_incarnation t (sessions_of t)
    + of_incarnation t t.outside

-- A session that lives and was made is of this incarnation.
abbrev pub living_now : Traced → Bool
living_now t = list_all (λ link. option_map_or
    (λ session. implies link.is_living (session.incarnation == t.machine.server.incarnation))
    link.session true) t.machine.links

abbrev pub is_connect : Item → Bool
is_connect item.Connect = true
is_connect _ = false

abbrev pub first_is_connect : List Handled → Bool
first_is_connect [] = false
first_is_connect (one ∷ others) = is_connect one.served.item
    && list_all (λ other. not (is_connect other.served.item)) others

-- It has its name once its Connect was served, which is its first item; each item is its, and the
-- identifier that was taken last.
abbrev pub is_named : Link → Bool
is_named link =
    same_bool (is_some link.session) (first_is_connect link.served)
    && (implies (is_none link.session) (length link.served == 0)
    && (list_all (λ one. option_map_or (same_session one.served.session) link.session false)
    link.served
    && option_map_or (λ x. option_map_or (same_session (session_of x)) link.session false) link.held
    true))

abbrev pub are_named : Traced → Bool
are_named t = list_all is_named t.machine.links

-- it counts what was answered Committed
abbrev pub commits_counted : Traced → Bool
commits_counted t = list_all (λ link. link.commits == count_by (λ one. is_commit one.served.item)
    link.served) t.machine.links

abbrev pub is_stopped : Item → Bool
is_stopped (item.CrashedCall replay call) = true
is_stopped (item.CrashedOutcome x) = true
is_stopped _ = false

-- nothing is served behind Blocked, Close or a stopped frame; a session that lives served none of
-- these
abbrev pub ends_life : Handled → Bool
ends_life one = is_last one.served.item || is_stopped one.served.item

abbrev pub none_behind : List Handled → Bool
none_behind [] = true
none_behind (one ∷ []) = true
none_behind (one ∷ next ∷ others) = not (ends_life one) && none_behind (next ∷ others)

abbrev pub lives_rightly : Link → Bool
lives_rightly link = none_behind link.served
    && implies link.is_living (not (list_any ends_life link.served))

abbrev pub lives : Traced → Bool
lives t = list_all lives_rightly t.machine.links

pub record Basic (t : Traced) : Type 0 where
  pub steps : IsTrue (have_risen t)
  pub ticks : IsTrue (kept_ticks t)
  pub items : IsTrue (items_rise t)
  pub one_item : IsTrue (items_differ t)
  pub down : IsTrue (is_down t)
  pub ended : IsTrue (are_ended t)
  pub apart : IsTrue (sessions_differ t)
  pub made : IsTrue (are_made t)
  pub counted : IsTrue (are_counted t)
  pub now : IsTrue (living_now t)
  pub named : IsTrue (are_named t)
  pub commits : IsTrue (commits_counted t)
  pub life : IsTrue (lives t)
