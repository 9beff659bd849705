-- What a served frame, or a part of one, comes to.
use Rattle.std.specs.Prelude.{◌≡◌, ◌≢◌, ◌+◌, ◌≤◌, ℕ, Bool, false, IsTrue, List, [], ◌∷◌, ◌++◌, length, Option, Some, None, Result, Ok, Err, IfOk}
use Rattle.std.specs.List.{AllByRecursion}
use Rattle.disk_model.specs.Disk.{DiskState, Meanwhile}
use Rattle.svc_values.specs.declared.answer.Answer.{Answer}
use Rattle.svc_values.specs.declared.call.Call.{Call}
use Rattle.svc_values.specs.declared.draw.Draw.{Draw}
use Rattle.svc_values.specs.declared.frame.Down.{Down}
use Rattle.svc_values.specs.declared.frame.Up.{Up}
use Rattle.svc_values.specs.declared.schema.Schema.{Schema}
use Rattle.svc_values.specs.meaning.Fitting.{writes_fit}
use Rattle.canon_bytes.specs.Entries.{IsMadePiece}
use Rattle.commit_log.specs.declared.records.Record.{Record}
use Rattle.commit_log.specs.Growth.{IsGrown}
use Rattle.commit_log.specs.meaning.Journals.{journal_of}
use Rattle.stmt_meaning.specs.meaning.Reads.{Read}
use Rattle.table_txn.specs.Readings.{AreReadings}
use Rattle.server_model.specs.Core.{Core as Plain}
use Rattle.server_model.specs.meaning.Outcomes.{Telling, Silent, Says, Stopped}
use Rattle.server_model.specs.Serve.{Serve, Calls, Commits, MayStore}
use Rattle.server_model.specs.Sessions.{Sess, ended}
use Rattle.server_session.specs.declared.shared.Core.{Core}
use Rattle.server_model.specs.declared.fault.ServeFault.{ServeFault}
use Rattle.server_model.specs.declared.fault.ServeFault.TheVariants as fault
use Rattle.server_session.specs.Adding.{HasGained, HasHalted}
use Rattle.server_session.specs.Holds.{HoldsSince}
use Rattle.server_session.specs.Fits.{Fits, Belongs}
use Rattle.server_session.specs.Leaving.{StaysTrue}
use Rattle.server_session.specs.Plain.{IsStored, IsPlain}
use Rattle.server_session.specs.SeenSession.{SeenSession, sess_of}

-- In what follows `step` is a relation of the plain server: its core and session before, these
-- afterwards, and what is told.

-- a served frame, and a call served in a request
abbrev pub served_as : Up → ℕ → Plain → Sess → Plain → Sess → Telling → Type 0
served_as frame now plain sess after t told = Serve plain sess now frame after t told

abbrev pub called_as : Bool → List Draw → Call → ℕ → Plain → Sess → Plain → Sess → Telling → Type 0
called_as replay kept called now plain sess after t told =
    Calls plain sess replay kept now called after t told

-- a commit that was reached, by a call with these answers and draws
abbrev pub commits_as : Bool → Call → List Answer → List Draw → Plain → Sess → Plain → Sess
    → Telling → Type 0
commits_as replay called answers draws plain sess after t told =
    Commits plain sess replay called answers draws after t told

-- the same of one that is stored, where it may be
abbrev pub stores_as : Call → List Answer → List Draw → Plain → Sess → Plain → Sess → Telling
    → Type 0
stores_as called answers draws plain sess after t told = MayStore plain sess false
    → Commits plain sess false called answers draws after t told

abbrev pub told_of : Option Down → Telling
told_of None = Silent
told_of (Some down) = Says down

-- The plain server may do this step, and its session read then what the session's notes stand for.
pub record StepsTo (step : Plain → Sess → Plain → Sess → Telling → Type 0) (told : Telling)
    (plain : Plain) (sess : Sess) (after : Plain) (new : SeenSession) : Type 0 where
  pub reads : List Read
  pub noted : AreReadings new.txn.readings reads
  pub steps : step plain sess after (sess_of new reads) told

-- A step that touches no store.
pub record Quietly (step : Plain → Sess → Plain → Sess → Telling → Type 0) (told : Telling)
    (old new : SeenSession) : Type 0 where
  pub steps : (plain : Plain) (reads : List Read) → AreReadings old.txn.readings reads
      → StepsTo step told plain (sess_of old reads) plain new
  pub ltxid : new.ltxid ≡ old.ltxid
  pub fitting : (schemas : List Schema) → IsTrue (writes_fit schemas old.txn.writes)
      → IsTrue (writes_fit schemas new.txn.writes)
  pub made : AllByRecursion IsMadePiece old.txn.pieces → AllByRecursion IsMadePiece new.txn.pieces
  pub holds : (core : Core) → HoldsSince core old.since old.txn.readings
      → HoldsSince core new.since new.txn.readings

-- Whatever front of these records an image holds behind those of the disk, the plain server may
-- have been stopped in the step with it, before an answer.
abbrev pub StopsAtFronts : (step : Plain → Sess → Plain → Sess → Telling → Type 0) → SeenSession
    → Core → DiskState → List Record → Type 0
StopsAtFronts step old core disk records =
    (plain : Plain) (reads : List Read) → IsPlain plain core disk
    → AreReadings old.txn.readings reads → (image : List ℕ)
    → IsGrown disk.now.seen records image
    → (after : Plain) × (IfOk (journal_of image) (IsStored after)
    × step plain (sess_of old reads) after (ended (sess_of old reads)) Stopped)

-- A step that was answered: it added at most so many records. Everything fits again, the other
-- sessions too, and the plain server may do the same. Where records were added it may as well have
-- been stopped behind any of them, or before all: an answer that reached nobody.
pub record HasServed (step : Plain → Sess → Plain → Sess → Telling → Type 0) (most : ℕ)
    (told : Telling) (old : SeenSession) (core : Core) (disk : DiskState) (new : SeenSession)
    (later : Core) (end : DiskState) : Type 0 where
  pub records : List Record
  pub few : length records ≤ most
  pub gained : HasGained records disk end
  pub fits : Fits later end
  pub belongs : Belongs later new
  pub others : (other : SeenSession) → other.ltxid.session ≢ old.ltxid.session → Belongs core other
      → Belongs later other
  pub steps : (plain : Plain) (reads : List Read) → IsPlain plain core disk
      → AreReadings old.txn.readings reads
      → (after : Plain) × (IsPlain after later end
      × StepsTo step told plain (sess_of old reads) after new)
  pub fronts : records ≢ [] → StopsAtFronts step old core disk records

-- A step that was stopped in a record: with whatever front of its records, this last one too, the
-- plain server may have been stopped. A crash leaves such a front.
pub record HasStopped (step : Plain → Sess → Plain → Sess → Telling → Type 0) (most : ℕ)
    (old : SeenSession) (core : Core) (disk : DiskState) (end : DiskState) : Type 0 where
  pub records : List Record
  pub last : Record
  pub few : length records + 1 ≤ most
  pub halted : HasHalted records last disk end
  pub steps : StopsAtFronts step old core disk (records ++ last ∷ [])

-- A step for which there was no memory: a crash at any moment leaves a front of the records that it
-- would have added. No fault of the disk is told so.
pub record HasLacked (most : ℕ) (disk end : DiskState) : Type 0 where
  pub records : List Record
  pub few : length records ≤ most
  pub moments : Meanwhile disk end (IsGrown disk.now.seen records)
  pub faults : end.faults ≡ disk.faults

-- by the answer; what a stop leaves of the core is true of the records that were stored before it
abbrev pub Serves : (step : Plain → Sess → Plain → Sess → Telling → Type 0) → ℕ
    → Result (Option Down) ServeFault → SeenSession → Core → DiskState → SeenSession → Core
    → DiskState → Type 0
Serves step most (Ok told) old core disk new later end =
    HasServed step most (told_of told) old core disk new later end
Serves step most (Err fault.NoMemory) old core disk new later end = HasLacked most disk end
Serves step most (Err fault.Stopped) old core disk new later end =
    HasStopped step most old core disk end × StaysTrue core later end
