-- What a call that adds a record to a store leaves, and what a crash in it does.
use Rattle.std.specs.Prelude.{◌≡◌, ℕ, Bool, true, List, [], ◌∷◌, IsTrue, OnOk, IsErrOf, Result, Ok}
use Rattle.disk_model.specs.Moment.{MayLeave}
use Rattle.disk_model.specs.Disk.{DiskState, Meanwhile, Lowers, Caused}
use Rattle.redo_store.specs.declared.fault.RedoFault.{RedoFault}
use Rattle.redo_store.specs.declared.fault.RedoFault.TheVariants as fault
use Rattle.commit_log.specs.declared.journal.Journal.{Journal}
use Rattle.commit_log.specs.declared.records.Record.{Record}
use Rattle.commit_log.specs.declared.log.Log.{Log}
use Rattle.commit_log.specs.meaning.Rules.{Begun, may_come}
use Rattle.commit_log.specs.meaning.Journals.{journal_of, so_far_of}
use Rattle.commit_log.specs.Growth.{HasAdded, IsGrown}
use Rattle.commit_log.specs.Logs.{GoesOnFrom, Trails}

-- the record may come next in the journal of the disk, in which the store was opened or not and has
-- a horizon or not
abbrev pub MayAddTo : (is_opened has_horizon : Bool) → DiskState → Record → Type 0
MayAddTo is_opened has_horizon disk new = (journal : Journal)
    → journal_of disk.now.seen ≡ Ok journal → IsTrue (may_come journal is_opened has_horizon new)

-- it may come next in the journal of an opened store
abbrev pub MayAdd : DiskState → Record → Type 0
MayAdd disk new = MayAddTo true true disk new

pub record AddsTo (is_opened has_horizon : Bool) (answer : Result (Unit {0}) RedoFault) (log : Log)
    (old new : DiskState) (added_record : Record) : Type 0 where
  -- at Ok the record is there, last
  pub added : OnOk answer (HasAdded old.now.seen (added_record ∷ []) new.now.seen)
  -- for want of memory there is none more
  pub refused : IsErrOf answer fault.NoMemory → HasAdded old.now.seen [] new.now.seen
  -- A crash at any moment of the call leaves the old records, or these with this one last. That the
  -- same is so of the time since it began, and of what a read gives when it has ended, is a law of
  -- `disk_model`.
  pub any_moment : Meanwhile old new (IsGrown old.now.seen (added_record ∷ []))
  -- after Ok and NoMemory the log goes on with its disk, where nothing is pending; after Stopped
  -- the store is to be opened again
  pub goes_on : GoesOnFrom is_opened has_horizon added_record answer log new
  -- after Stopped it still knows where the old records end, in whatever a crash then leaves
  pub trails : IsErrOf answer fault.Stopped → (journal : Journal)
      → so_far_of old.now.seen ≡ Ok (Begun journal is_opened has_horizon) → (image : List ℕ)
      → MayLeave new.now image
      → Trails is_opened has_horizon journal log image
  -- it succeeds only with no stop or one of at least four; with either a quiet disk has no fault
  pub stop : Lowers 4 answer old.stop new.stop
  pub cause : Caused (IsErrOf answer fault.Stopped) old new

-- the same of a store that was opened
abbrev pub Adds : Result (Unit {0}) RedoFault → Log → (old new : DiskState) → Record → Type 0
Adds = AddsTo true true
