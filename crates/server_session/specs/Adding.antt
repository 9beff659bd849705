-- What calls that add records to a store leave, one after the other.
use Rattle.std.specs.Prelude.{◌≡◌, ◌⊎◌, ◌+◌, ◌*◌, ℕ, IsTrue, List, [], ◌∷◌, ◌++◌, length, Some}
use Rattle.disk_model.specs.Moment.{MayLeave}
use Rattle.disk_model.specs.Disk.{DiskState, Meanwhile, Lowered, LoweredByLess, with_fault}
use Rattle.commit_log.specs.declared.records.Record.{Record}
use Rattle.commit_log.specs.Growth.{HasAdded, IsGrown}

-- These records were added, in order, each in four writes and syncs, and without a fault. A crash
-- at any moment leaves a front of them.
pub record HasGained (records : List Record) (old new : DiskState) : Type 0 where
  pub added : HasAdded old.now.seen records new.now.seen
  pub moments : Meanwhile old new (IsGrown old.now.seen records)
  pub stop : Lowered (4 * length records) old.stop new.stop
  pub faults : new.faults ≡ old.faults
  pub quiet : new.quiet ≡ old.quiet
  pub pick : new.pick ≡ old.pick

-- the image holds what the old one does, with these records, and the last one or not
abbrev pub IsLeftOf : List ℕ → List Record → Record → List ℕ → Type 0
IsLeftOf old records last image = HasAdded old records image ⊎ HasAdded old (records ++ last ∷ [])
    image

-- These records were added, and in the one behind them the disk failed: in a quiet one since a stop
-- was reached. A crash now leaves all of the first, and the last one or not.
pub record HasHalted (records : List Record) (last : Record) (old new : DiskState) : Type 0 where
  pub left : (image : List ℕ) → MayLeave new.now image → IsLeftOf old.now.seen records last image
  pub moments : Meanwhile old new (IsGrown old.now.seen (records ++ last ∷ []))
  pub stop : LoweredByLess (4 * length records + 4) old.stop new.stop
  pub faults : new.faults ≡ with_fault old.faults
  pub reached : IsTrue old.quiet → new.stop ≡ Some 0
  pub quiet : new.quiet ≡ old.quiet
  pub pick : new.pick ≡ old.pick
