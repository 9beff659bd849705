-- What a service shows of itself.
use Rattle.std.specs.Prelude.{◌≡◌, ◌≢◌, ◌+◌, ◌==◌, ◌<◌, ◌≤◌, ℕ, Bool, true, false, List, [], ◌++◌, map, Option, Some, None, if◌then◌else◌}
use Rattle.svc_values.specs.declared.entry.Entry.{Entry}
use Rattle.svc_values.specs.declared.entry.Ltxid.{Ltxid}
use Rattle.ltxid_book.specs.meaning.Journal.{committed_of, book_of}
use Rattle.ltxid_book.specs.meaning.Sessions.{Sessions}
use Rattle.server_model.specs.meaning.Base.{Base}
use Rattle.svc_values.specs.declared.entry.SessionId.{SessionId}
use Rattle.server_model.specs.Runs.{Happened, Server, Power, Off, On, Runs}

-- what a reading of the store gives, the time before the service was made included; `records` is
-- the number of its records
pub record Store : Type 0 where
  pub incarnation : ℕ
  pub horizon : ℕ
  pub entries : List Entry
  pub blocked : List Ltxid
  pub alerts : List (List ℕ)
  pub records : ℕ

-- what it says of each session
abbrev pub book_in : Store → Sessions
book_in store = book_of store.horizon (map committed_of store.entries) store.blocked

-- which connections live, each with its session once a frame was served on it
abbrev pub Connections : Type 0
Connections = ℕ → Option (Option SessionId)

abbrev pub none_living : Connections
none_living connection = None

abbrev pub SameLiving : Connections → Connections → Type 0
SameLiving new old = (connection : ℕ) → new connection ≡ old connection

-- the state of a service
pub record ServiceState : Type 0 where
  pub store : Store
  pub is_up : Bool
  -- nothing is pending on its disk
  pub is_settled : Bool
  -- an `up` has answered Ok since it was made and since its last crash
  pub is_opened : Bool
  pub living : Connections
  -- how many sessions this opening has made
  pub sessions : ℕ
  -- what ended a call before its answer, as a disk that failed; never falls
  pub faults : ℕ
  -- a fault comes only under a stop
  pub is_quiet : Bool
  pub stop : Option ℕ
  -- the stop at the start of the last `serve` or `up`
  pub kept : Option ℕ
  -- the device calls of a record
  pub per_record : ℕ
  pub crashes : ℕ
  -- the pick and the stop of the last crash
  pub last_pick : Option ℕ
  pub last_stop : Option ℕ
  -- how many calls were made on it
  pub calls : ℕ
  -- a call found no memory, and it may only be dropped
  pub is_spent : Bool

-- What is seen of a service: its state, and how it came to it. What came before takes no room in
-- it, so it is seen with each past that it may have had.
pub record Seen : Type 0 where
  -- the moment at which it was made
  pub start : Base
  -- each frame that was served and each identifier that was asked, in order
  pub history : List Happened
  pub state : ServiceState

abbrev pub HasPower : Bool → Bool → Power → Type 0
HasPower true is_settled power = power ≡ On
HasPower false true power = power ≡ Off
HasPower false false power = power ≢ On

-- The history is one of the plain server, and the store holds what that server's has gained. Serial
-- runs, legal and fresh items and what is told are laws of that.
pub record IsHistory (seen : Seen) : Type 0 where
  pub server : Server
  pub runs : Runs seen.start seen.history server
  pub entries : seen.state.store.entries ≡ seen.start.entries ++ server.core.entries
  pub blocked : seen.state.store.blocked ≡ seen.start.blocked ++ server.core.blocked
  pub alerts : seen.state.store.alerts ≡ seen.start.alerts ++ server.core.alerts
  pub incarnation : seen.state.store.incarnation ≡ server.core.opening.incarnation
  pub horizon : seen.state.store.horizon ≡ server.core.horizon
  pub count : seen.state.is_up ≡ true → seen.state.sessions ≡ server.count
  pub power : HasPower seen.state.is_up seen.state.is_settled server.power

-- no call was made on it: it is down, its store is as it was, and it has no stop
pub record IsNew (seen : Seen) : Type 0 where
  pub history : seen.history ≡ []
  pub entries : seen.state.store.entries ≡ seen.start.entries
  pub blocked : seen.state.store.blocked ≡ seen.start.blocked
  pub alerts : seen.state.store.alerts ≡ seen.start.alerts
  pub incarnation : seen.state.store.incarnation ≡ seen.start.incarnation
  pub horizon : seen.state.store.horizon ≡ seen.start.horizon
  pub down : (seen.state.is_up ≡ false) × (seen.state.is_settled ≡ true)
      × (seen.state.is_opened ≡ false)
  pub none : SameLiving seen.state.living none_living × (seen.state.stop ≡ None)
      × (seen.state.crashes ≡ 0) × (seen.state.last_pick ≡ None) × (seen.state.calls ≡ 0)
      × (seen.state.is_spent ≡ false)

-- ---- connections

-- the connection lives
abbrev pub Lives : ServiceState → ℕ → Type 0
Lives state connection = state.living connection ≢ None

abbrev pub without_connection : ℕ → Connections → Connections
without_connection connection living other = if other == connection then None else living other

abbrev pub with_connection : ℕ → Option SessionId → Connections → Connections
with_connection connection session living other =
    if other == connection then Some session else living other

-- ---- what calls keep

-- a fault was counted
abbrev pub Rose : Seen → Seen → Type 0
Rose old new = old.state.faults < new.state.faults

-- what no call but `crash` and `up` changes
pub record Keeps (old new : Seen) : Type 0 where
  pub start : new.start ≡ old.start
  pub is_opened : new.state.is_opened ≡ old.state.is_opened
  pub is_quiet : new.state.is_quiet ≡ old.state.is_quiet
  pub per_record : new.state.per_record ≡ old.state.per_record
  pub crashes : (new.state.crashes ≡ old.state.crashes)
      × (new.state.last_pick ≡ old.state.last_pick) × (new.state.last_stop ≡ old.state.last_stop)
  pub faults : old.state.faults ≤ new.state.faults
  -- no stop is set
  pub stop : old.state.stop ≡ None → new.state.stop ≡ None
  pub calls : new.state.calls ≡ old.state.calls + 1
  pub is_spent : new.state.is_spent ≡ false

-- a call that adds nothing to the history and the store
pub record KeepsStore (old new : Seen) : Type 0 where
  pub history : new.history ≡ old.history
  pub store : new.state.store ≡ old.state.store
  pub is_settled : new.state.is_settled ≡ old.state.is_settled
  pub is_up : new.state.is_up ≡ old.state.is_up
  pub sessions : new.state.sessions ≡ old.state.sessions
  pub kept : new.state.kept ≡ old.state.kept
