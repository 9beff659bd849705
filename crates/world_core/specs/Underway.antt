-- How the clock, the connections and the pool of a run stand for those of the machine.
use Rattle.std.specs.Prelude.{◌≡◌, ◌≤◌, ◌<◌, ℕ, Bool, true, false, List, [], ◌∷◌, length, fold, Option, Some, None, if◌then◌else◌}
use Rattle.svc_values.specs.declared.frame.Up.{Up}
use Rattle.svc_values.specs.declared.frame.Up.TheVariants as up
use Rattle.pool_core.specs.meaning.Slots.{Slots, is_among}
use Rattle.client_model.specs.declared.act.Hold.{Hold}
use Rattle.client_model.specs.declared.act.Hold.TheVariants.{GiveBack, Drop}
use Rattle.svc_values.specs.declared.frame.Down.{Down}
use Rattle.client_model.specs.declared.input.Input.TheVariants.{Took}
use Rattle.outage_schedule.specs.declared.item.Served.{Served}
use Rattle.world_model.specs.meaning.Frames.{Reply}
use Rattle.world_model.specs.meaning.Links.{Link, with_link, changed, ends, sends, takes}
use Rattle.world_model.specs.meaning.Machines.{Machine}
use Rattle.world_model.specs.meaning.Outside.{closed_by_drain}
use Rattle.world_model.specs.meaning.Serving.{Front, front_at, is_blocked, after_front, pool_after}
use Rattle.world_core.specs.declared.connection.Connection.{Connection}
use Rattle.world_core.specs.declared.traffic.Traffic.{Traffic}
use Rattle.world_core.specs.Linked.{Stand, connection_at, MaySend}
use Rattle.world_core.specs.Answering.{session_served, served_item, crashed_item}

pub record IsUnderway (held : Traffic) (m : Machine) : Type 0 where
  pub event : m.event ≡ held.event
  pub tick : m.tick ≡ held.tick
  pub links : Stand held.connections m.links
  pub pool : m.pool ≡ held.pool
  -- the pool knows no connection that was not opened
  pub opened : m.pool.opened ≤ length m.links

-- there is a machine that this stands for
abbrev pub IsUnderwaySome : Traffic → Type 0
IsUnderwaySome held = (m : Machine) × IsUnderway held m

-- the machine goes on, and this stands for its next state
abbrev pub Leads : Option Machine → Traffic → Type 0
Leads next after = (m : Machine) × ((next ≡ Some m) × IsUnderway after m)

-- the frame in front was taken off
abbrev pub FrontOf : Machine → ℕ → Option Front → Option Up → Traffic → Type 0
FrontOf m number None frame after = (frame ≡ None) × IsUnderway after m
FrontOf m number (Some front) frame after = (frame ≡ Some front.first.frame)
    × IsUnderway after (record m {
      links =
          with_link m.links number (record front.link { up = front.later });
    })

abbrev pub GivesFrontOf : Machine → ℕ → Option Up → Traffic → Type 0
GivesFrontOf m number frame after = FrontOf m number (front_at m.links number) frame after

-- the reply in front was taken
abbrev pub GivesReplyOf : Machine → ℕ → Link → List Reply → Option Down → Traffic → Type 0
GivesReplyOf m number link [] frame after = (frame ≡ None) × IsUnderway after m
GivesReplyOf m number link (reply ∷ left) frame after =
    (frame ≡ Some reply.frame) × IsUnderway after
    (record m {
      links = with_link m.links number
          (takes (Took reply.frame link.is_open) reply left link);
    })

-- the connection behind the frame in front, with this reply
abbrev pub answered_link : ℕ → Front → Served → Option Down → Link
answered_link event front served reply =
    if is_blocked served.item then ends event (after_front front served reply) else
    after_front front served reply

-- a slot is held where one comes back, and a connection that comes back was opened and is not idle
abbrev pub MayRelease : Slots → ℕ → Bool → Hold → Type 0
MayRelease pool number holds_slot GiveBack = (0 < pool.lent) × (number ≤ pool.opened)
    × (is_among number pool.idle ≡ false)
MayRelease pool number true Drop = 0 < pool.lent
MayRelease pool number _ _ = Unit {0}

-- a Close is to be sent, or nothing
abbrev pub closes_with : Bool → List Up
closes_with true = up.Close ∷ []
closes_with false = []

-- each is open, and stands there once
abbrev pub AreClosable : List Connection → List ℕ → Type 0
AreClosable all [] = Unit {0}
AreClosable all (number ∷ numbers) = MaySend (connection_at all number) (up.Close ∷ [])
    × ((is_among number numbers ≡ false) × AreClosable all numbers)

-- a Close is sent on each
abbrev pub all_closed : ℕ → List Link → List ℕ → List Link
all_closed event links numbers = fold (changed (sends event (closed_by_drain ∷ []))) links numbers

-- A frame was served with this reply: its item is written down, and the reply is on its way. A
-- commit that was blocked ends the connection.
pub record IsWritten (held : Traffic) (m : Machine) (number : ℕ) (front : Front) (frame : Up)
    (reply : Option Down) (served : Served) (after : Traffic) : Type 0 where
  pub event : served.event ≡ m.event
  pub session : served.session ≡ session_served front.link.session reply
  pub item : served.item ≡ served_item frame reply
  pub links : IsUnderway after (record m {
    links =
        with_link m.links number (answered_link m.event front served reply);
    pool =
        pool_after m.pool number served.item;
  })

-- A frame was stopped before its reply: its item is written down.
pub record IsStopped (held : Traffic) (m : Machine) (number : ℕ) (front : Front) (frame : Up)
    (served : Served) (after : Traffic) : Type 0 where
  pub event : served.event ≡ m.event
  pub session : served.session ≡ session_served front.link.session None
  pub item : served.item ≡ crashed_item frame
  pub links : IsUnderway after (record m {
    links =
        with_link m.links number (after_front front served None);
  })
