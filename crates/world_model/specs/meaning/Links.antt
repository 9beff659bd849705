-- Connections, each with its session.
use Rattle.std.specs.Prelude.{ℕ, zero, suc, ◌+◌, ◌&&◌, Bool, true, false, List, [], ◌∷◌, ◌++◌, slice_get, slice_set, Option, Some, None, if◌then◌else◌}
use Rattle.std.specs.List.{list_any}
use Rattle.std.specs.Option.{option_or, option_map_or}
use Rattle.svc_values.specs.declared.entry.Ltxid.{Ltxid}
use Rattle.svc_values.specs.declared.frame.Up.{Up}
use Rattle.svc_values.specs.declared.frame.Up.TheVariants as up
use Rattle.svc_values.specs.declared.frame.Down.TheVariants as down
use Rattle.svc_values.specs.declared.entry.SessionId.{SessionId}
use Rattle.client_model.specs.declared.input.Input.{Input}
use Rattle.client_model.specs.declared.input.Input.TheVariants.{Lent, Took}
use Rattle.world_model.specs.meaning.Frames.{Sent, Reply, Handled}

-- A connection. It is open until a cut, a crash, an answer Blocked or a Close that is sent on it;
-- `ended` is the event of that. Its session lives from its opening on. The session has its name
-- once Connect was served, and `commits` counts what it answered Committed. `held` is the
-- identifier that was taken last. `sent`, `served` and `taken` is all that ever was, in order; `up`
-- are the frames that may still be served, and `down` the replies that may still be taken.
pub record Link : Type 0 where
  pub is_open : Bool
  pub is_cut : Bool
  pub is_living : Bool
  pub ended : Option ℕ
  pub session : Option SessionId
  pub commits : ℕ
  pub held : Option Ltxid
  pub sent : List Sent
  pub served : List Handled
  pub taken : List Reply
  pub up : List Sent
  pub down : List Reply

abbrev pub new_link : Link
new_link = record {
  is_open = true;
  is_cut = false;
  is_living = true;
  ended = None;
  session = None;
  commits = 0;
  held = None;
  sent = [];
  served = [];
  taken = [];
  up = [];
  down = [];
}

-- connections are numbered from 1
abbrev pub link_at : List Link → ℕ → Option Link
link_at links zero = None
link_at links (suc index) = slice_get links index

abbrev pub with_link : List Link → ℕ → Link → List Link
with_link links zero link = links
with_link links (suc index) link = slice_set links index link

-- where there is one of this number, it becomes that
abbrev pub changed : (Link → Link) → List Link → ℕ → List Link
changed change links number = option_map_or (λ link. with_link links number (change link))
    (link_at links number) links

-- the event ends it, if it is open
abbrev pub ends : ℕ → Link → Link
ends event link = if link.is_open then record link { is_open = false; ended = Some event } else link

abbrev pub is_close : Up → Bool
is_close up.Close = true
is_close _ = false

-- The frames are sent on it. A Close ends it.
abbrev pub sends : ℕ → List Sent → Link → Link
sends event frames link =
    let sending : Link = record link { sent = link.sent ++ frames; up = link.up ++ frames } in
    if list_any (λ sent. is_close sent.frame) frames then ends event sending else sending

-- the identifier that comes with a session or a reply, whether the reply is shown or not
abbrev pub told_by : Input → Option Ltxid
told_by (Lent connection ltxid) = Some ltxid
told_by (Took (down.Hello ltxid) alive) = Some ltxid
told_by (Took (down.Reply answers draws ltxid) alive) = Some ltxid
told_by _ = None

-- The first reply is taken, and these are left.
abbrev pub takes : Input → Reply → List Reply → Link → Link
takes input reply left link = record link {
  down = left;
  taken = link.taken ++ reply ∷ [];
  held =
      option_or (told_by input) link.held;
}

-- its connection was cut, and the session goes on
abbrev pub is_orphan : Link → Bool
is_orphan link = link.is_living && link.is_cut

-- the numbers of those that are open, from this number on
abbrev pub put_if : Bool → ℕ → List ℕ → List ℕ
put_if true number numbers = number ∷ numbers
put_if false number numbers = numbers

abbrev pub open_from : ℕ → List Link → List ℕ
open_from number [] = []
open_from number (link ∷ links) = put_if link.is_open number (open_from (number + 1) links)
