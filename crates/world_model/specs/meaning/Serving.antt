-- `serve`: the session of a connection serves its first whole frame.
use Rattle.std.specs.Prelude.{ℕ, ◌+◌, ◌==◌, ◌&&◌, Bool, true, false, not, cond, List, [], ◌∷◌, ◌++◌, Option, Some, None, option_to_list, option_map, option_and_then, if◌then◌else◌}
use Rattle.std.specs.Option.{option_map_or}
use Rattle.svc_values.specs.declared.entry.Ltxid.{Ltxid}
use Rattle.svc_values.specs.declared.frame.Up.{Up}
use Rattle.svc_values.specs.declared.frame.Up.TheVariants as up
use Rattle.svc_values.specs.declared.frame.Down.{Down}
use Rattle.svc_values.specs.declared.frame.Down.TheVariants as down
use Rattle.svc_values.specs.declared.frame.Ahead.TheVariants as ahead
use Rattle.svc_values.specs.meaning.SettingsList.{same_settings}
use Rattle.svc_values.specs.meaning.Endings.{ends_committed}
use Rattle.svc_values.specs.meaning.Identifiers.{same_ltxid, same_session}
use Rattle.pool_core.specs.meaning.Slots.{Slots, after_gone}
use Rattle.outage_schedule.specs.declared.note.AskResult.{AskResult}
use Rattle.outage_schedule.specs.declared.note.AskResult.TheVariants as told
use Rattle.outage_schedule.specs.declared.note.FrameName.{FrameName}
use Rattle.svc_values.specs.declared.entry.SessionId.{SessionId}
use Rattle.outage_schedule.specs.declared.item.Item.{Item}
use Rattle.outage_schedule.specs.declared.item.Item.TheVariants as item
use Rattle.outage_schedule.specs.declared.item.Served.{Served}
use Rattle.svc_values.specs.meaning.Same.{same_bool, same_call}
use Rattle.run_clauses.specs.meaning.Outcomes.{is_uncommitted}
use Rattle.world_model.specs.meaning.Frames.{Sent, Reply}
use Rattle.world_model.specs.meaning.Links.{Link, link_at, with_link, ends}
use Rattle.world_model.specs.meaning.Machines.{Server, Machine, next_session}
use Rattle.world_model.specs.meaning.Noting.{only_if, name_of, same_name}

-- A frame that may be served now: it is the first one of a connection whose session lives, and
-- others come later.
pub record Front : Type 0 where
  pub link : Link
  pub first : Sent
  pub later : List Sent

abbrev pub first_of : Link → List Sent → Option Front
first_of link [] = None
first_of link (first ∷ later) = Some (record { link = link; first = first; later = later })

abbrev pub front_of : Link → Option Front
front_of link = if link.is_living then first_of link link.up else None

abbrev pub front_at : List Link → ℕ → Option Front
front_at links number = option_and_then front_of (link_at links number)

-- THE ITEM ----------------------------------------------------------------------------------------

-- it is the item of this frame; of a call it may be that it was blocked
abbrev pub is_item_of : Up → Item → Bool
is_item_of up.Connect item.Connect = true
is_item_of (up.Begin settings) (item.Begin begun) = same_settings begun settings
is_item_of (up.Call replay kept call) (item.Call marked served answers draws) =
    same_bool marked replay && same_call served call
is_item_of (up.Call replay kept call) (item.Blocked served) = same_call served call
is_item_of (up.Outcome ltxid) (item.Outcome asked result) = same_ltxid asked ltxid
is_item_of up.End item.End = true
is_item_of up.Close item.Close = true
is_item_of _ _ = false

-- Connect makes the next session, and each other frame is served by the session of its connection.
abbrev pub is_served_by : Server → Link → Up → SessionId → Bool
is_served_by server link up.Connect session = same_session session (next_session server)
is_served_by server link frame session = option_map_or (same_session session) link.session false

-- the item is of this event and of the session that serves the frame
abbrev pub is_of_front : Machine → Front → Served → Bool
is_of_front m front served = (served.event == m.event)
    && is_served_by m.server front.link front.first.frame served.session

-- the ordinary item of the frame
abbrev pub is_ordinary : Machine → Front → Served → Bool
is_ordinary m front served = is_of_front m front served && is_item_of front.first.frame served.item

-- THE REPLY ---------------------------------------------------------------------------------------

abbrev pub identifier : SessionId → ℕ → Ltxid
identifier session number = record {
  incarnation = session.incarnation;
  session = session.session;
  number = number;
}

-- the frame for an outcome
abbrev pub outcome_frame : AskResult → Down
outcome_frame (told.Committed completed) = down.OutcomeIs true completed
outcome_frame told.Uncommitted = down.OutcomeIs false false
outcome_frame (told.ServerAhead next) = down.OutcomeRefused ahead.Server next
outcome_frame (told.ClientAhead next) = down.OutcomeRefused ahead.Client next
outcome_frame (told.Forgotten horizon) = down.OutcomeRefused ahead.Forgotten horizon

-- what a session that has answered so many commits replies
abbrev pub reply_of : SessionId → ℕ → Item → Option Down
reply_of session commits item.Connect = Some (down.Hello (identifier session commits))
reply_of session commits (item.Call marked call answers draws) =
    Some (down.Reply answers draws (identifier session commits))
reply_of session commits (item.Blocked call) = Some down.Blocked
reply_of session commits (item.Outcome asked result) = Some (outcome_frame result)
reply_of session commits _ = None

-- AFTERWARDS --------------------------------------------------------------------------------------

abbrev pub is_commit : Item → Bool
is_commit (item.Call marked call answers draws) = ends_committed answers
is_commit _ = false

abbrev pub is_blocked : Item → Bool
is_blocked (item.Blocked call) = true
is_blocked _ = false

-- a session ends by Blocked and by Close
abbrev pub is_last : Item → Bool
is_last (item.Blocked call) = true
is_last item.Close = true
is_last _ = false

abbrev pub commits_after : Link → Item → ℕ
commits_after link one = link.commits + cond (is_commit one) 1 0

-- a reply to this frame, on its way to the client while the connection is open
abbrev pub on_its_way : Link → Sent → Option Down → List Reply
on_its_way link sent reply = if link.is_open then option_to_list (option_map (λ frame. record {
  to = sent;
  frame = frame;
}) reply) else []

-- with the frame served, and this reply given
abbrev pub after_front : Front → Served → Option Down → Link
after_front front served reply = record front.link {
  session = Some served.session;
  commits = commits_after front.link served.item;
  is_living = not (is_last served.item);
  served = front.link.served ++ record { sent = front.first; served = served; reply = reply } ∷ [];
  up = front.later;
  down = front.link.down ++ on_its_way front.link front.first reply;
}

-- Blocked ends the connection.
abbrev pub handled : ℕ → Front → Served → Link
handled event front served =
    let after : Link = after_front front served
    (reply_of served.session (commits_after front.link served.item) served.item) in
    if is_blocked served.item then ends event after else after

-- an idle connection that ends leaves the pool
abbrev pub pool_after : Slots → ℕ → Item → Slots
pool_after pool number one = if is_blocked one then after_gone pool number else pool

abbrev pub server_after : Server → Item → Server
server_after server item.Connect = record server { sessions = server.sessions + 1 }
server_after server (item.Outcome asked result) =
    if is_uncommitted result then record server { blocked = asked ∷ server.blocked } else server
server_after server _ = server

-- after the event that served the first frame of this connection
abbrev pub after_served : Machine → ℕ → Front → Served → Machine
after_served m number front served = record m {
  links = with_link m.links number (handled m.event front served);
  server = server_after m.server served.item;
  pool = pool_after m.pool number served.item;
}

-- The note names the frame, and there is one item, the frame's. Without a frame the note is none,
-- and there is no item.
abbrev pub serves : Machine → ℕ → Option FrameName → List Served → Option Front
    → Option (Machine × List Served)
serves m number None items None = Some (m, items)
serves m number (Some name) (served ∷ items) (Some front) =
    only_if (same_name name (name_of front.first.frame) && is_ordinary m front served)
    (after_served m number front served, items)
serves m number _ _ _ = None

abbrev pub follow_serve : Machine → ℕ → Option FrameName → List Served
    → Option (Machine × List Served)
follow_serve m number frame items = serves m number frame items (front_at m.links number)
