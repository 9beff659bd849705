-- What a core comes to with one record more, and what is told of an identifier.
use Rattle.std.specs.Prelude.{◌≡◌, ◌≢◌, ◌≤◌, ℕ, List, [], ◌∷◌, length, Result, Ok, Err, IfOk}
use Rattle.disk_model.specs.Disk.{DiskState}
use Rattle.svc_values.specs.declared.entry.Ltxid.{Ltxid}
use Rattle.ltxid_book.specs.declared.verdict.Verdict.{Verdict}
use Rattle.ltxid_book.specs.meaning.Sessions.{Sessions}
use Rattle.ltxid_book.specs.Sessions.{sessions_in, after_commit, after_block}
use Rattle.ltxid_book.specs.meaning.Outcomes.{verdict_of}
use Rattle.commit_log.specs.declared.records.Record.{Record}
use Rattle.commit_log.specs.declared.records.Record.TheVariants as kept
use Rattle.commit_log.specs.Growth.{IsGrown}
use Rattle.commit_log.specs.meaning.Journals.{journal_of}
use Rattle.server_model.specs.Core.{Core as Plain}
use Rattle.server_model.specs.meaning.Outcomes.{Stopped}
use Rattle.server_model.specs.Outcomes.{if_blocks, verdict_on, Outcomes}
use Rattle.server_session.specs.declared.shared.Core.{Core}
use Rattle.server_model.specs.declared.fault.ServeFault.{ServeFault}
use Rattle.server_model.specs.declared.fault.ServeFault.TheVariants as fault
use Rattle.server_session.specs.Adding.{HasGained, HasHalted}
use Rattle.server_session.specs.Holds.{MovesOn}
use Rattle.server_session.specs.Fits.{Fits, Belongs}
use Rattle.server_session.specs.Leaving.{StaysTrue}
use Rattle.server_session.specs.Plain.{IsStored, IsPlain}
use Rattle.server_session.specs.SeenSession.{SeenSession}
use Rattle.server_session.specs.Serving.{HasLacked}

-- ---- one record

-- what a book says with the record noted in it
abbrev pub noted_by : Record → Sessions → Sessions
noted_by (kept.Commit entry) sessions = after_commit sessions entry.ltxid entry.completed
noted_by (kept.Blocked x) sessions = after_block sessions x
noted_by _ sessions = sessions

-- The record is stored, and the core fits its disk with it.
pub record HasStored (one : Record) (core : Core) (disk : DiskState) (later : Core)
    (end : DiskState) : Type 0 where
  pub gained : HasGained (one ∷ []) disk end
  pub fits : Fits later end
  pub book : sessions_in later.book ≡ noted_by one (sessions_in core.book)
  pub schemas : later.tables.schemas ≡ core.tables.schemas
  pub moves : MovesOn core later
  pub source : later.source ≡ core.source
  pub grants : later.grants ≡ core.grants

abbrev pub Stores : Record → Result (Unit {0}) ServeFault → Core → DiskState → Core → DiskState
    → Type 0
Stores one (Ok done) core disk later end = HasStored one core disk later end
Stores one (Err fault.NoMemory) core disk later end = HasLacked 1 disk end
Stores one (Err fault.Stopped) core disk later end = HasHalted [] one disk end
    × StaysTrue core later end

-- ---- outcomes

-- Whatever front of these records an image holds behind those of the disk, the plain server may
-- have been stopped with it before the outcome was told.
abbrev pub StopsTelling : Ltxid → Core → DiskState → List Record → Type 0
StopsTelling x core disk records =
    (plain : Plain) → IsPlain plain core disk → (image : List ℕ)
    → IsGrown disk.now.seen records image
    → (after : Plain) × (IfOk (journal_of image) (IsStored after)
    × Outcomes plain x after Stopped)

-- An identifier's outcome by the book. Where it is to be blocked that is stored, and no session is
-- at another number. Where it was stored, it may as well have been stopped, with the block or
-- without it.
pub record HasTold (x : Ltxid) (told : Verdict) (core : Core) (disk : DiskState) (later : Core)
    (end : DiskState) : Type 0 where
  pub verdict : told ≡ verdict_of (sessions_in core.book) x
  pub records : List Record
  pub few : length records ≤ 1
  pub gained : HasGained records disk end
  pub fits : Fits later end
  pub belongs : (seen : SeenSession) → Belongs core seen → Belongs later seen
  pub steps : (plain : Plain) → IsPlain plain core disk → (verdict_on plain x ≡ told)
      × IsPlain (if_blocks told plain x) later end
  pub fronts : records ≢ [] → StopsTelling x core disk records

-- The block was stopped, and stands in what a crash then leaves or not.
pub record HasStoppedTelling (x : Ltxid) (core : Core) (disk end : DiskState) : Type 0 where
  pub halted : HasHalted [] (kept.Blocked x) disk end
  pub steps : StopsTelling x core disk (kept.Blocked x ∷ [])

abbrev pub Tells : Ltxid → Result Verdict ServeFault → Core → DiskState → Core → DiskState → Type 0
Tells x (Ok told) core disk later end = HasTold x told core disk later end
Tells x (Err fault.NoMemory) core disk later end = HasLacked 1 disk end
Tells x (Err fault.Stopped) core disk later end = HasStoppedTelling x core disk end
    × StaysTrue core later end
