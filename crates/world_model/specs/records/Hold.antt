-- Who holds which connection and slot.
use Rattle.std.specs.Prelude.{ℕ, ◌+◌, ◌==◌, ◌&&◌, Bool, true, false, not, nat_le, if◌then◌else◌, IsTrue, List, [], ◌∷◌, length, filter, filter_map, flat_map, count_by, Option, Some, None, is_some}
use Rattle.std.specs.List.{list_all, last_or}
use Rattle.std.specs.Option.{option_map_or}
use Rattle.svc_values.specs.declared.entry.Ltxid.{Ltxid}
use Rattle.svc_values.specs.declared.frame.Up.{Up}
use Rattle.svc_values.specs.declared.frame.Up.TheVariants as up
use Rattle.svc_values.specs.meaning.Identifiers.{same_ltxid}
use Rattle.pool_core.specs.meaning.Slots.{drains}
use Rattle.client_model.specs.meaning.Verifying.{index_of}
use Rattle.svc_values.specs.meaning.Same.{same_bool}
use Rattle.client_model.specs.declared.input.Input.{Input}
use Rattle.client_model.specs.declared.input.Input.TheVariants.{Waiting}
use Rattle.client_model.specs.meaning.Terms.{Phase, Queued, Greeting, Asked, Running, Replaying}
use Rattle.client_model.specs.Released.{has_slot}
use Rattle.world_model.specs.meaning.Frames.{Sent}
use Rattle.world_model.specs.meaning.Links.{Link, link_at}
use Rattle.world_model.specs.meaning.Clients.{Step}
use Rattle.world_model.specs.Traced.{Traced, Course, courses_of}
use Rattle.world_model.specs.Sames.{each_pair, rise, owned_by}
use Rattle.world_model.specs.Parts.{Numbered, links_of, is_out, count_reps, is_answered}

-- H1: a connection that is open is one request's, or idle; one that is not open is not idle
abbrev pub holders_of : List Course → ℕ → ℕ
holders_of courses number = count_by (λ course. option_map_or (λ other. other == number)
    course.connection false) courses

abbrev pub idle_of : Traced → ℕ → ℕ
idle_of t number = count_by (λ other. other == number) t.machine.pool.idle

abbrev pub is_had : Traced → List Course → Numbered → Bool
is_had t courses one =
    if one.link.is_open then holders_of courses one.number + idle_of t one.number == 1
    else ((idle_of t one.number == 0) && nat_le (holders_of courses one.number) 1)

abbrev pub are_had : Traced → Bool
are_had t = list_all (is_had t (courses_of t)) (links_of t)

abbrev pub is_end : Up → Bool
is_end up.End = true
is_end _ = false

-- nothing is out on one that is idle, and End was sent last; it was opened after the last drain
abbrev pub is_idle : Link → Bool
is_idle link = link.is_open && (is_some link.held
    && ((count_reps link.sent == length link.taken)
    && option_map_or (λ sent. is_end sent.frame) (last_or None link.sent) false))

abbrev pub are_idle : Traced → Bool
are_idle t = list_all (λ number. option_map_or is_idle (link_at t.machine.links number) false
    && not (drains t.machine.pool number)) t.machine.pool.idle

-- H2
abbrev pub slots_held : Traced → Bool
slots_held t = (t.machine.pool.lent == count_by (λ course. has_slot course.phase) (courses_of t))
    && nat_le t.machine.pool.lent t.machine.pool.max

abbrev pub is_queued : Phase → Bool
is_queued (Queued from) = true
is_queued _ = false

abbrev pub is_waiting : Input → Bool
is_waiting Waiting = true
is_waiting _ = false

-- the event at which the request waited first
abbrev pub joined_at : List Step → Option ℕ
joined_at [] = None
joined_at (step ∷ steps) = if is_waiting step.done.input then Some step.event else joined_at steps

abbrev pub joined_by : List Course → ℕ → List ℕ
joined_by courses client = filter_map (λ course. joined_at course.steps)
    (filter (λ course. is_queued course.phase && (course.owner.client == client)) courses)

-- the clients that wait, in the order in which they waited first, each once
abbrev pub queue_is : Traced → List Course → Bool
queue_is t courses =
    rise (flat_map (joined_by courses) t.machine.pool.queue)
    && (list_all (λ client. length (joined_by courses client) == 1) t.machine.pool.queue
    && (each_pair (λ a b. not (a == b)) t.machine.pool.queue
    && (length t.machine.pool.queue == count_by (λ course. is_queued course.phase) courses)))

abbrev pub are_queued : Traced → Bool
are_queued t = queue_is t (courses_of t)

abbrev pub are_opened : Traced → Bool
are_opened t = (t.machine.pool.opened == length t.machine.links)
    && nat_le t.machine.pool.drained t.machine.pool.opened

-- H3: a connection is held in these phases, and what is out on it is what the phase waits for
abbrev pub holds_connection : Phase → Bool
holds_connection (Greeting lost) = true
holds_connection (Asked asking) = true
holds_connection (Running state) = true
holds_connection (Replaying state) = true
holds_connection _ = false

abbrev pub is_call : Bool → ℕ → Sent → Up → Bool
is_call mark index sent (up.Call replay kept call) = same_bool mark replay && (sent.call == index)
is_call mark index sent _ = false

abbrev pub is_connect : Up → Bool
is_connect up.Connect = true
is_connect _ = false

abbrev pub is_ask : Ltxid → Up → Bool
is_ask x (up.Outcome asked) = same_ltxid x asked
is_ask x _ = false

abbrev pub is_awaited : Phase → Sent → Bool
is_awaited (Greeting lost) sent = is_connect sent.frame
is_awaited (Asked asking) sent = is_ask asking.ltxid sent.frame
is_awaited (Running state) sent = is_call false state.track.call sent sent.frame
is_awaited (Replaying state) sent = is_call true (index_of state) sent sent.frame
is_awaited _ sent = false

-- what was sent last is out, and is the request's
abbrev pub waits_on : Course → Link → Bool
waits_on course link = is_out link && option_map_or (λ sent. is_answered sent.frame
    && (owned_by course.owner sent && is_awaited course.phase sent)) (last_or None link.sent) false

abbrev pub is_held : Traced → Course → Bool
is_held t course =
    same_bool (is_some course.connection) (holds_connection course.phase)
    && option_map_or (λ number. option_map_or (waits_on course) (link_at t.machine.links number)
    false) course.connection true

abbrev pub are_held : Traced → Bool
are_held t = list_all (is_held t) (courses_of t)

-- H3b: the identifier that the request goes by is the one held on its connection
abbrev pub goes_by : Phase → Option Ltxid
goes_by (Asked asking) = Some asking.fresh
goes_by (Running state) = Some state.ltxid
goes_by (Replaying state) = Some state.ltxid
goes_by _ = None

abbrev pub same_held : Option Ltxid → Option Ltxid → Bool
same_held None None = true
same_held (Some a) (Some b) = same_ltxid a b
same_held _ _ = false

abbrev pub is_by_held : Traced → Course → Bool
is_by_held t course = option_map_or (λ number.
    option_map_or (λ link. same_held (goes_by course.phase) link.held)
    (link_at t.machine.links number) false) course.connection true

abbrev pub are_by_held : Traced → Bool
are_by_held t = list_all (is_by_held t) (courses_of t)

pub record Hold (t : Traced) : Type 0 where
  pub had : IsTrue (are_had t)
  pub idle : IsTrue (are_idle t)
  pub lent : IsTrue (slots_held t)
  pub queue : IsTrue (are_queued t)
  pub opened : IsTrue (are_opened t)
  pub held : IsTrue (are_held t)
  pub by_held : IsTrue (are_by_held t)
