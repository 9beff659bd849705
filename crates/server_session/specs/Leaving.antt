-- What a stop leaves of a core: its log ends behind the first records of whatever a crash then
-- leaves, and all else of it is of the journal that these come to.
use Rattle.std.specs.Prelude.{◌≡◌, ℕ, true, List, Ok}
use Rattle.disk_model.specs.Moment.{MayLeave}
use Rattle.disk_model.specs.Disk.{DiskState}
use Rattle.commit_log.specs.declared.journal.Journal.{Journal}
use Rattle.commit_log.specs.declared.log.Log.{Log}
use Rattle.commit_log.specs.Logs.{Trails}
use Rattle.commit_log.specs.meaning.Journals.{so_far_of}
use Rattle.commit_log.specs.meaning.Rules.{Begun}
use Rattle.server_session.specs.declared.shared.Core.{Core}
use Rattle.server_session.specs.Following.{IsOfJournal}

-- a log that was stopped still knows where the records end that the disk had before
abbrev pub StillEnds : Log → (disk end : DiskState) → Type 0
StillEnds log disk end = (journal : Journal)
    → so_far_of disk.now.seen ≡ Ok (Begun journal true true) → (image : List ℕ)
    → MayLeave end.now image → Trails true true journal log image

-- the core is that of the first records of the image
pub record IsOfFront (core : Core) (image : List ℕ) : Type 0 where
  pub journal : Journal
  pub of_journal : IsOfJournal core journal
  pub trails : Trails true true journal core.log image

-- so it is of whatever a crash leaves, and its grants are those that it had
pub record StaysTrue (core later : Core) (end : DiskState) : Type 0 where
  pub front : (image : List ℕ) → MayLeave end.now image → IsOfFront later image
  pub grants : later.grants ≡ core.grants
