-- What is seen of one service on one store: its state, by its fields and its disk, and how it may
-- have come to it.
--
-- Beside the service stands a plain server: while it is up, one whose core has what the journal
-- has, and whose sessions are those of the connections, each with the reads that the session's
-- notes stand for. The plain server may have more sessions, of connections that ended: nothing is
-- served in them any more. While the service is down a plain server stands beside each image that a
-- crash may leave: after a stop the one that the crash chooses had the stopped record, or not.
use Rattle.std.specs.Prelude.{◌≡◌, ◌+◌, ℕ, Bool, false, List, [], ◌∷◌, ◌++◌, Option, Some, None, is_some, Result, Ok, Err, IfOk}
use Rattle.disk_model.specs.Moment.{MayLeave}
use Rattle.disk_model.specs.Disk.{DiskState}
use Rattle.redo_store.specs.meaning.Records.{records_of}
use Rattle.redo_store.specs.Records.{record_count}
use Rattle.mutable_values.specs.declared.grants.Grants.{Grants}
use Rattle.commit_log.specs.declared.journal.Journal.{Journal}
use Rattle.commit_log.specs.meaning.Journals.{journal_of}
use Rattle.stmt_meaning.specs.meaning.Reads.{Read}
use Rattle.table_txn.specs.Readings.{AreReadings}
use Rattle.server_model.specs.meaning.Base.{Base}
use Rattle.server_model.specs.Runs.{Happened, Server, On, Runs}
use Rattle.server_model.specs.Seen.{Store, ServiceState, Seen, HasPower}
use Rattle.server_model.specs.Sessions.{Sess}
use Rattle.server_session.specs.declared.shared.Core.{Core}
use Rattle.server_session.specs.Plain.{IsStored, IsPlain}
use Rattle.server_session.specs.SeenSession.{SeenSession as Session, sess_of}
use Rattle.service_core.specs.declared.notes.Notes.{Notes}
use Rattle.service_core.specs.Held.{Held, held_at, living_of}
use Rattle.service_core.specs.Within.{Within}
use Rattle.service_core.specs.Sound.{IsSoundWithin}

-- ---- the state

abbrev pub store_in : Result Journal ℕ → ℕ → Store
store_in (Ok journal) records = record {
  incarnation = journal.incarnation;
  horizon = journal.horizon;
  entries = journal.entries;
  blocked = journal.blocked;
  alerts = journal.alerts;
  records = records;
}
store_in (Err place) records = record {
  incarnation = 0;
  horizon = 0;
  entries = [];
  blocked = [];
  alerts = [];
  records = 0;
}

-- what these bytes hold; a service's bytes are always those of a journal
abbrev pub store_of : List ℕ → Store
store_of bytes = store_in (journal_of bytes) (record_count (records_of bytes))

-- a record takes four writes and syncs
abbrev pub state_of : DiskState → Option Core → Held → Notes → ServiceState
state_of disk core held notes = record {
  store = store_of disk.now.seen;
  is_up = is_some core;
  is_settled = notes.is_settled;
  is_opened = notes.is_opened;
  living = living_of held;
  sessions = notes.sessions;
  faults = disk.faults;
  is_quiet = disk.quiet;
  stop = disk.stop;
  kept = notes.kept;
  per_record = 4;
  crashes = notes.crashes;
  last_pick = notes.last_pick;
  last_stop = notes.last_stop;
  calls = notes.calls;
  is_spent = notes.is_spent;
}

-- ---- the plain server beside it

-- A session of a connection is one of the plain server's, which read what the session's notes stand
-- for.
pub record Attends (sessions : List Sess) (session : Session) : Type 0 where
  pub reads : List Read
  pub noted : AreReadings session.txn.readings reads
  pub front : List Sess
  pub back : List Sess
  pub split : sessions ≡ front ++ sess_of session reads ∷ back

-- Beside a service that is up.
pub record StandsUp (disk : DiskState) (core : Core) (held : Held) (made : ℕ)
    (server : Server) : Type 0 where
  pub power : server.power ≡ On
  pub plain : IsPlain server.core core disk
  pub count : server.count ≡ made
  pub attends : (connection : ℕ) (session : Session) → held_at held connection ≡ Some (Some session)
      → Attends server.sessions session

-- Beside one that is down, on a disk that reads so, or will.
pub record StandsDown (grants : Grants) (is_settled : Bool) (image : List ℕ)
    (server : Server) : Type 0 where
  pub power : HasPower false is_settled server.power
  pub stored : IfOk (journal_of image) (IsStored server.core)
  pub grants_are : server.core.base.grants ≡ grants

-- a run of the plain server that ends with such a server
pub record Came (start : Base) (history : List Happened) (Stands : Server → Type 0) : Type 0 where
  pub server : Server
  pub runs : Runs start history server
  pub is_base : server.core.base ≡ start
  pub stands : Stands server

-- Down: whatever a crash leaves, and what a read gives, a run has come to it. Up: a run has come to
-- where it stands.
abbrev pub Stands : Grants → DiskState → Option Core → Held → Notes → Base → List Happened → Type 0
Stands grants disk None held notes start history = (image : List ℕ) → MayLeave disk.now image
    → Came start history (StandsDown grants notes.is_settled image)
Stands grants disk (Some core) held notes start history =
    Came start history (StandsUp disk core held notes.sessions)

pub record Sees (grants : Grants) (disk : DiskState) (core : Option Core) (held : Held)
    (notes : Notes) (seen : Seen) : Type 0 where
  pub state_is : seen.state ≡ state_of disk core held notes
  pub stands : Stands grants disk core held notes seen.start seen.history

-- ---- of a service

abbrev pub state_in : Within → ServiceState
state_in service = state_of service.disk service.core service.held service.notes

abbrev pub StandsIn : Within → Base → List Happened → Type 0
StandsIn service start history = Stands service.grants service.disk service.core service.held
    service.notes start history

-- It is seen while it is not spent.
pub record SeesIn (service : Within) (seen : Seen) : Type 0 where
  pub live : service.notes.is_spent ≡ false
  pub sound : IsSoundWithin service
  pub sees : Sees service.grants service.disk service.core service.held service.notes seen

-- what a crash may leave
pub record Leaves (disk : DiskState) (store : Store) : Type 0 where
  pub image : List ℕ
  pub left : MayLeave disk.now image
  pub store_is : store ≡ store_of image

abbrev pub LeavesIn : Within → Store → Type 0
LeavesIn service store = Leaves service.disk store

abbrev pub bytes_in : Within → List ℕ
bytes_in service = service.disk.now.seen

-- one call more was made
abbrev pub called : Notes → Notes
called notes = record notes { calls = notes.calls + 1 }
