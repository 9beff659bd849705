-- Events under a stop, each with a crash behind it.
use Rattle.std.specs.Prelude.{◌≡◌, ◌⊎◌, ◌||◌, ◌+◌, ◌<◌, ◌≤◌, ℕ, true, false, List, [], ◌++◌, Some}
use Rattle.svc_values.specs.declared.entry.Ltxid.{Ltxid}
use Rattle.svc_values.specs.declared.entry.SessionId.{SessionId}
use Rattle.ltxid_book.specs.meaning.Journal.{is_blocked}
use Rattle.outage_schedule.specs.declared.item.Served.{Served}
use Rattle.server_model.specs.Laws.{stops_last}
use Rattle.server_model.specs.Seen.{Store, ServiceState, Seen}
use Rattle.server_model.specs.ServiceCalls.{with_stop, Gains, Opened, StoppedOpening}
use Rattle.world_model.specs.CrashCount.{StoppedAt}
use Rattle.world_model.specs.meaning.Crashing.{serves_last}
use Rattle.world_model.specs.meaning.Machines.{Server, Machine}
use Rattle.world_model.specs.ServiceDid.{front_served}
use Rattle.world_model.specs.Coupled.{life_by}
use Rattle.world_model.specs.meaning.Serving.{front_at}
use Rattle.world_model.specs.ToldByStore.{AreByStore}
use Rattle.world_model.specs.Traced.{Traced}
use Rattle.world_core.specs.declared.traffic.Traffic.{Traffic}
use Rattle.world_core.specs.Underway.{IsUnderway}
use Rattle.world_core.specs.Making.{IsReady, IsAt}

-- an opening was begun under a stop, which it reached or not
abbrev pub BegunOpening : Seen → ℕ → ℕ → (Store → Type 0) → Seen → Type 0
BegunOpening old below after leaves new =
    Opened (with_stop old (Some after)) below new ⊎ StoppedOpening (with_stop old (Some after))
    below leaves new

-- the service may be seen, and is ready
abbrev pub IsSeen : (Seen → Type 0) → Type 0
IsSeen sees = (seen : Seen) × (sees seen × IsReady seen.state)

-- the machine knows of each of these that are blocked: it was told uncommitted, or a stopped frame
-- asked for it
abbrev pub AreKnown : Server → List Ltxid → Type 0
AreKnown server blocked = (x : Ltxid) → is_blocked blocked x ≡ true
    → (is_blocked server.blocked x || is_blocked server.doubtful x) ≡ true

-- WHAT THE LAST FRAME LEAVES ----------------------------------------------------------------------

-- The frame was served, or stopped: what a crash then leaves has gained what came from it.
pub record ServedLast (seen : Seen) (t : Traced) (number after : ℕ) (items : List Served)
    (leaves : Store → Type 0) (new : Seen) (m : Machine) : Type 0 where
  pub follows : serves_last (record t.machine { event = t.machine.event + 1 }) number after items
      (front_at t.machine.links number) ≡ Some (m, [])
  pub server : (m.server.incarnation ≡ t.machine.server.incarnation)
      × (m.server.per_record ≡ t.machine.server.per_record)
      × (m.server.stopped ≡ t.machine.server.stopped)
  pub others : (m.event ≡ t.machine.event + 1) × (m.tick ≡ t.machine.tick)
      × (m.clients ≡ t.machine.clients)
  pub start : new.start ≡ seen.start
  pub history : new.history ≡ seen.history ++ front_served t.machine.tick
      (front_at t.machine.links number) items
  pub told : AreByStore seen.state.store
      (front_served t.machine.tick (front_at t.machine.links number) items)
  pub lasts : stops_last new.history ≡ true
  -- no session of an incarnation to come is in it
  pub later : (session : SessionId) → t.machine.server.incarnation < session.incarnation
      → life_by new.history session ≡ life_by seen.history session
  pub per_record : new.state.per_record ≡ seen.state.per_record
  -- a crash behind it is counted as the next one, with the stop of the frame
  pub crashes : new.state.crashes ≡ seen.state.crashes
  pub kept : (fallen : ServiceState) → fallen.last_stop ≡ new.state.kept
      → StoppedAt after items fallen
  pub ready : (new.state.is_spent ≡ false) × (new.state.is_quiet ≡ seen.state.is_quiet)
      × (new.state.is_opened ≡ seen.state.is_opened) × (new.state.calls ≤ seen.state.calls + 2)
  pub left : (store : Store) → leaves store → (new.state.is_up ≡ true → store ≡ new.state.store)
      → Gains (front_served t.machine.tick (front_at t.machine.links number) items) seen.state.store
      store
  pub blocks : (store : Store) → leaves store → (new.state.is_up ≡ true → store ≡ new.state.store)
      → AreKnown m.server store.blocked

-- wherever the machine stood before the event, the frame led it on
abbrev pub LeadsLast : (Seen → Type 0) → Traffic → (Seen → Type 0) → (Store → Type 0) → Traffic → ℕ
    → ℕ → List Served → Type 0
LeadsLast sees before sees_later leaves later number after items =
    (seen : Seen) (t : Traced) → IsAt sees before seen t
    → (new : Seen) × ((m : Machine) × (sees_later new
    × (ServedLast seen t number after items leaves new m × IsUnderway later m)))
