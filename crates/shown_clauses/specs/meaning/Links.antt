-- Connections, by the notes and the served items alone. Nothing is tested here.
use Rattle.std.specs.Prelude.{ℕ, zero, suc, ◌==◌, Bool, true, false, List, [], ◌∷◌, ◌++◌, map, fold, Option, Some, None}
use Rattle.std.specs.Option.{option_map_or}
use Rattle.svc_values.specs.declared.call.Call.{Call}
use Rattle.svc_values.specs.declared.entry.SessionId.{SessionId}
use Rattle.outage_schedule.specs.declared.item.Item.{Item}
use Rattle.outage_schedule.specs.declared.item.Item.TheVariants as item
use Rattle.outage_schedule.specs.declared.item.Served.{Served}
use Rattle.outage_schedule.specs.declared.note.GoNote.{GoNote}
use Rattle.outage_schedule.specs.declared.note.GoNote.TheVariants as go
use Rattle.outage_schedule.specs.declared.note.Note.{Note}
use Rattle.outage_schedule.specs.declared.note.Note.TheVariants as note
use Rattle.svc_values.specs.meaning.Identifiers.{same_session}
use Rattle.shown_clauses.specs.meaning.Fronts.{with_changed, first_of, first_item, rest_items}
use Rattle.shown_clauses.specs.meaning.Happenings.{Happening}

-- The step by which a request came to a session: it was lent the connection, or took its Hello.
pub record Acquired : Type 0 where
  pub client : ℕ
  pub event : ℕ

-- a call that a session served, with the mark or without
pub record Marked : Type 0 where
  pub replay : Bool
  pub call : Call

-- What a session served since one `begin`: the last acquisition of the session before it, and the
-- calls, the newest first. Each item that carries a call counts as having served it, a blocked and
-- a crashed one too.
pub record Turn : Type 0 where
  pub acquired : Option Acquired
  pub calls : List Marked

-- A connection whose Connect was served: its session; the replies that were not taken yet, in
-- order; the event that ended it, 0 where none did; its last acquisition; and what its session
-- served since the last `begin`.
pub record Link : Type 0 where
  pub connection : ℕ
  pub session : SessionId
  pub replies : List Served
  pub ended : ℕ
  pub acquired : Option Acquired
  pub turn : Option Turn

-- the connections, the newest first, and the turns that another `begin` followed
pub record Seen : Type 0 where
  pub links : List Link
  pub over : List Turn

abbrev pub nothing_seen : Seen
nothing_seen = record { links = []; over = [] }

abbrev pub is_link : ℕ → Link → Bool
is_link connection link = link.connection == connection

abbrev pub has_session : SessionId → Link → Bool
has_session session link = same_session link.session session

-- the connection with this number, and the one with this session
abbrev pub link_of : ℕ → List Link → Option Link
link_of connection links = first_of (is_link connection) links

abbrev pub link_of_session : SessionId → List Link → Option Link
link_of_session session links = first_of (has_session session) links

-- ---- what an item does

-- The items of a `serve` name its connection, and each that is answered is a reply there. The
-- `connect` item gives the session.
abbrev pub new_link : ℕ → SessionId → List Served → Link
new_link connection session replies =
    record {
      connection = connection;
      session = session;
      replies = replies;
      ended = 0;
      acquired = None;
      turn = None;
    }

abbrev pub add_reply : ℕ → Served → List Link → List Link
add_reply connection one links = with_changed (is_link connection)
    (λ link. record link { replies = link.replies ++ one ∷ [] }) links

abbrev pub connected : ℕ → Served → Option Link → List Link → List Link
connected connection one None links = new_link connection one.session (one ∷ []) ∷ links
connected connection one (Some link) links = add_reply connection one links

abbrev pub served_on : ℕ → Served → Item → List Link → List Link
served_on connection one item.Connect links =
    connected connection one (link_of connection links) links
served_on connection one (item.Call replay call answers draws) links =
    add_reply connection one links
served_on connection one (item.Blocked call) links = add_reply connection one links
served_on connection one (item.Outcome x result) links = add_reply connection one links
served_on connection one (item.Refused cause) links = add_reply connection one links
served_on connection one _ links = links

-- The item of a `crash` is answered by nothing that arrives.
abbrev pub stopped_connected : ℕ → Served → Option Link → List Link → List Link
stopped_connected connection one None links = new_link connection one.session [] ∷ links
stopped_connected connection one (Some link) links = links

abbrev pub stopped_on : ℕ → Served → Item → List Link → List Link
stopped_on connection one item.Connect links =
    stopped_connected connection one (link_of connection links) links
stopped_on connection one _ links = links

-- The connection of a session that answered Blocked or Refused is ended by that event, if it was
-- open still.
abbrev pub end_at : ℕ → ℕ → ℕ
end_at event zero = event
end_at event (suc before) = suc before

abbrev pub end_link : ℕ → Link → Link
end_link event link = record link { ended = end_at event link.ended }

abbrev pub end_session : ℕ → SessionId → Item → List Link → List Link
end_session event session (item.Blocked call) links =
    with_changed (has_session session) (end_link event) links
end_session event session (item.Refused cause) links =
    with_changed (has_session session) (end_link event) links
end_session event session _ links = links

-- ---- turns

abbrev pub add_call : Bool → Call → Turn → Turn
add_call replay call turn = record turn {
  calls = record {
    replay = replay;
    call = call;
  } ∷ turn.calls;
}

abbrev pub call_served : Bool → Call → Link → Link
call_served replay call link = record link {
  turn =
      option_map_or (λ turn. Some (add_call replay call turn)) link.turn None;
}

abbrev pub turn_begun : Link → Link
turn_begun link = record link { turn = Some (record { acquired = link.acquired; calls = [] }) }

-- the connection with this session after it served the item
abbrev pub in_turn : SessionId → Item → List Link → List Link
in_turn session (item.Begin settings) links = with_changed (has_session session) turn_begun links
in_turn session (item.Call replay call answers draws) links =
    with_changed (has_session session) (call_served replay call) links
in_turn session (item.Blocked call) links =
    with_changed (has_session session) (call_served false call) links
in_turn session (item.CrashedCall replay call) links =
    with_changed (has_session session) (call_served replay call) links
in_turn session _ links = links

-- the turn that a connection has
abbrev pub turn_of : Link → List Turn
turn_of link = option_map_or (λ turn. turn ∷ []) link.turn []

-- The turn that is over where the item begins another. A `begin` of a session that no connection
-- has is a turn that nobody acquired.
abbrev pub over_on : Option Link → List Turn
over_on None = record { acquired = None; calls = [] } ∷ []
over_on (Some link) = turn_of link

abbrev pub over_by : SessionId → Item → List Link → List Turn
over_by session (item.Begin settings) links = over_on (link_of_session session links)
over_by session _ links = []

-- ---- what an event does

-- its items by the connection that its note names
abbrev pub linked : Note → List Link → Served → List Link
linked (note.Serve connection (Some frame)) links one = served_on connection one one.item links
linked (note.Crash connection false) links one = stopped_on connection one one.item links
linked _ links one = links

-- and by the session
abbrev pub after_item : ℕ → Note → Seen → Served → Seen
after_item event noted seen one =
    let links : List Link = linked noted seen.links one in
    record {
      links = end_session event one.session one.item (in_turn one.session one.item links);
      over = over_by one.session one.item links ++ seen.over;
    }

abbrev pub acquire : ℕ → ℕ → Link → Link
acquire client event link = record link {
  acquired = Some (record {
    client = client;
    event = event;
  });
}

-- The n-th `took` of a connection takes its n-th reply; one that takes a Hello acquires the
-- session.
abbrev pub is_connect : Item → Bool
is_connect item.Connect = true
is_connect _ = false

-- it is a Hello
abbrev pub is_hello : Option Served → Bool
is_hello reply = option_map_or (λ one. is_connect one.item) reply false

abbrev pub acquire_if : Bool → ℕ → ℕ → Link → Link
acquire_if true client event link = acquire client event link
acquire_if false client event link = link

abbrev pub take_reply : ℕ → ℕ → Link → Link
take_reply client event link = acquire_if (is_hello (first_item link.replies)) client event
    (record link { replies = rest_items link.replies })

abbrev pub after_go : ℕ → ℕ → GoNote → List Link → List Link
after_go client event (go.Lent connection) links =
    with_changed (is_link connection) (acquire client event) links
after_go client event (go.Took connection sent) links =
    with_changed (is_link connection) (take_reply client event) links
after_go client event _ links = links

-- A connection is ended by a cut of it, and by a crash.
abbrev pub after_note : ℕ → Note → List Link → List Link
after_note event (note.Go client did) links = after_go client event did links
after_note event (note.Cut connection (Some reached)) links =
    with_changed (is_link connection) (end_link event) links
after_note event (note.Crash connection false) links = map (end_link event) links
after_note event _ links = links

abbrev pub after_happening : Seen → Happening → Seen
after_happening seen happening =
    let served : Seen = fold (after_item happening.event happening.noted) seen happening.items in
    record served { links = after_note happening.event happening.noted served.links }
