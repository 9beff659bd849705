-- When a log goes on with its disk.
use Rattle.std.specs.Prelude.{◌≡◌, ℕ, ◌||◌, Bool, true, false, IsFalse, IsTrue, List, length, Result, Ok, Err}
use Rattle.disk_model.specs.Disk.{DiskState}
use Rattle.redo_store.specs.declared.fault.RedoFault.{RedoFault}
use Rattle.redo_store.specs.declared.fault.RedoFault.TheVariants.{NoMemory, Stopped, Damaged}
use Rattle.redo_store.specs.Redo.{is_live as is_live_store, count_of as count_of_store, tail_of, CanAppend}
use Rattle.redo_store.specs.Walk.{StandsBehind}
use Rattle.commit_log.specs.declared.base.Base.{Base}
use Rattle.commit_log.specs.declared.journal.Journal.{Journal}
use Rattle.commit_log.specs.declared.records.Record.{Record}
use Rattle.commit_log.specs.declared.log.Log.{Log}
use Rattle.commit_log.specs.meaning.Rules.{Begun, Empty, is_opening, is_horizon, may_come, new_journal, with_record}
use Rattle.commit_log.specs.meaning.Journals.{journal_of, judged, so_far_of}

-- it may be added to, as far as it knows
abbrev pub is_live : Log → Bool
is_live log = is_live_store log.redo

-- how many records its store has, as far as it knows
abbrev pub count_of : Log → ℕ
count_of log = count_of_store log.redo

-- The log and the disk belong together: the store may be added to, its records are counted, and its
-- journal has begun, in which the store was opened or not, and has a horizon or not.
pub record HasBegun (is_opened has_horizon : Bool) (log : Log) (disk : DiskState) : Type 0 where
  pub append : CanAppend log.redo disk
  pub journal : Journal
  pub so_far : so_far_of disk.now.seen ≡ Ok (Begun journal is_opened has_horizon)

-- a record may be added
abbrev pub CanAdd : Log → DiskState → Type 0
CanAdd log disk = CanAppend log.redo disk

-- The log ends behind the first records of an image, live or not, and these come to this journal.
pub record Trails (is_opened has_horizon : Bool) (journal : Journal) (log : Log)
    (image : List ℕ) : Type 0 where
  pub done : List (List ℕ)
  pub stands : StandsBehind (tail_of log.redo) done image
  pub counted : count_of log ≡ length done
  pub judges : judged Empty 8 done ≡ Ok (Begun journal is_opened has_horizon)

-- it ends so, whatever it knows, and the image is that of a journal
pub record IsBehind (log : Log) (image : List ℕ) : Type 0 where
  pub is_opened : Bool
  pub has_horizon : Bool
  pub journal : Journal
  pub trails : Trails is_opened has_horizon journal log image
  pub last : Journal
  pub reads : journal_of image ≡ Ok last

-- it ends behind the first record of the image, a base
pub record IsBehindBase (log : Log) (image : List ℕ) : Type 0 where
  pub base : Base
  pub trails : Trails false false (new_journal base) log image

-- The record behind may come next, and the log ends behind it now.
pub record HasReadOn (is_opened has_horizon : Bool) (journal : Journal) (one : Record) (log : Log)
    (image : List ℕ) : Type 0 where
  pub may : IsTrue (may_come journal is_opened has_horizon one)
  pub trails : Trails (is_opened || is_opening one) (has_horizon || is_horizon one)
      (with_record journal one) log image

-- they are ready: the store was opened, and has a horizon
abbrev pub CanLog : Log → DiskState → Type 0
CanLog = HasBegun true true

-- After an answer to the adding of a record the log goes on with its disk. But after Stopped it is
-- not live; and no damage is told.
abbrev pub GoesOnFrom : (is_opened has_horizon : Bool) → Record → Result (Unit {0}) RedoFault → Log
    → DiskState → Type 0
GoesOnFrom is_opened has_horizon added (Ok done) log disk =
    HasBegun (is_opened || is_opening added) (has_horizon || is_horizon added) log disk
GoesOnFrom is_opened has_horizon added (Err NoMemory) log disk =
    HasBegun is_opened has_horizon log disk
GoesOnFrom is_opened has_horizon added (Err Stopped) log disk = IsFalse (is_live log)
GoesOnFrom is_opened has_horizon added (Err (Damaged place)) log disk = ⊥
