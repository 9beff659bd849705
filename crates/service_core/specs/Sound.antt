-- What a service keeps to, whatever came before: while it is up, what its sessions share fits its
-- disk, and its sessions are of this opening; while it is down, each image that a crash may leave
-- is that of a journal.
use Rattle.std.specs.Prelude.{◌≡◌, ◌+◌, ◌<◌, ◌≤◌, ◌^◌, ℕ, true, false, List, [], Option, Some, None, Ok}
use Rattle.disk_model.specs.Moment.{MayLeave}
use Rattle.disk_model.specs.Disk.{DiskState, IsSettled}
use Rattle.mutable_values.specs.declared.grants.Grants.{Grants}
use Rattle.commit_log.specs.declared.base.Base.{Base}
use Rattle.commit_log.specs.declared.journal.Journal.{Journal}
use Rattle.commit_log.specs.meaning.Journals.{journal_of}
use Rattle.stmt_meaning.specs.meaning.Reads.{Read}
use Rattle.table_txn.specs.Readings.{AreReadings}
use Rattle.server_session.specs.declared.shared.Core.{Core}
use Rattle.server_session.specs.Fits.{Fits, Belongs}
use Rattle.svc_values.specs.meaning.Identifiers.{ltxid_of}
use Rattle.server_session.specs.SeenSession.{SeenSession as Session, begins, is_alive}
use Rattle.service_core.specs.declared.notes.Notes.{Notes}
use Rattle.service_core.specs.Held.{Held, held_at}
use Rattle.service_core.specs.Within.{Within}

-- Each opening is a call: so a count of at most 2^62 leaves room for all that may come.
abbrev pub HasRoom : ℕ → Notes → Type 0
HasRoom count notes = count ≤ 2 ^ 62 + notes.calls

-- A call has one fault at most, and so has the reading for a second store, which comes once behind
-- a call.
abbrev pub HasFaultRoom : ℕ → Notes → Type 0
HasFaultRoom count notes = (count ≤ 2 ^ 62 + (notes.calls + notes.reads))
    × (notes.reads ≤ notes.calls)

-- a session of a living connection, and what it has read
pub record IsHeld (core : Core) (made : ℕ) (session : Session) : Type 0 where
  pub reads : List Read
  pub noted : AreReadings session.txn.readings reads
  pub belongs : Belongs core session
  pub lives : is_alive session.life ≡ true
  pub numbered : session.ltxid.session ≤ made

-- as its connection's first frame makes it
abbrev pub unmade : Core → ℕ → Session
unmade core session = begins (ltxid_of (record {
  incarnation = core.source.incarnation;
  session = session;
}) 0)

pub record IsUp (grants : Grants) (disk : DiskState) (core : Core) (held : Held)
    (notes : Notes) : Type 0 where
  pub fits : Fits core disk
  pub granted : core.grants ≡ grants
  pub faults : HasFaultRoom disk.faults notes
  pub settled : notes.is_settled ≡ true
  pub room : HasRoom core.source.incarnation notes
  pub few : notes.sessions ≤ notes.calls
  pub crashes : notes.crashes ≤ notes.calls
  pub each : (connection : ℕ) (session : Session) → held_at held connection ≡ Some (Some session)
      → IsHeld core notes.sessions session
  -- each commit was a call
  pub counted : (connection : ℕ) (session : Session) → held_at held connection ≡ Some (Some session)
      → session.ltxid.number ≤ notes.calls
  -- no session above those that were made has committed
  pub unmade_belong : (session : ℕ) → notes.sessions < session → Belongs core (unmade core session)
  -- no two connections have one session
  pub apart : (connection other : ℕ) (session another : Session)
      → held_at held connection ≡ Some (Some session) → held_at held other ≡ Some (Some another)
      → another.ltxid.session ≡ session.ltxid.session → other ≡ connection

-- the image is that of a journal with this base
pub record Reads (base : Base) (notes : Notes) (image : List ℕ) : Type 0 where
  pub journal : Journal
  pub reads : journal_of image ≡ Ok journal
  pub base_is : journal.base ≡ base
  pub room : HasRoom journal.incarnation notes

pub record IsDown (disk : DiskState) (held : Held) (notes : Notes) : Type 0 where
  pub none : held ≡ []
  pub base : Base
  pub leaves : (image : List ℕ) → MayLeave disk.now image → Reads base notes image
  pub faults : HasFaultRoom disk.faults notes
  pub crashes : notes.crashes ≤ notes.calls
  pub reads_now : MayLeave disk.now disk.now.seen
  pub settled : notes.is_settled ≡ true → IsSettled disk

abbrev pub IsSound : Grants → DiskState → Option Core → Held → Notes → Type 0
IsSound grants disk None held notes = IsDown disk held notes
IsSound grants disk (Some core) held notes = IsUp grants disk core held notes

abbrev pub IsSoundWithin : Within → Type 0
IsSoundWithin service = IsSound service.grants service.disk service.core service.held service.notes

-- so it is, unless a call found no memory
abbrev pub IsKept : Within → Type 0
IsKept service = service.notes.is_spent ≡ false → IsSoundWithin service
