-- What follows from what a call says of time, and of its stop and faults.
use Rattle.std.specs.Prelude.{◌≡◌, ◌⊎◌, ◌++◌, ℕ, List, IsTrue, IsErrOf, Result}
use Rattle.disk_model.specs.Moment.{DiskMoment, MayLeave, AnyMayLeave}
use Rattle.disk_model.specs.Disk.{DiskState, history, LeftSince, moment, Allows, Lowers, Caused}

-- What a crash since old may have left, it may have left at old, or at a moment that was added
-- since.
abbrev pub LeavesSince : Type 0
LeavesSince =
    (old new : DiskState) (added : List DiskMoment)
    → history new ≡ history old ++ added → (image : List ℕ) → LeftSince new (moment old) image
    → MayLeave old.now image ⊎ AnyMayLeave added image

-- What a crash now may leave, it may have left at old, or at a moment that was added since.
abbrev pub LeavesNow : Type 0
LeavesNow =
    (old new : DiskState) (added : List DiskMoment)
    → history new ≡ history old ++ added → (image : List ℕ) → MayLeave new.now image
    → MayLeave old.now image ⊎ AnyMayLeave added image

-- a quiet disk has no fault in a call of n writes and syncs under no stop, or under one that lets
-- them pass
abbrev pub QuietHasNoFault : Type 0 → Type 0 → Type 0
QuietHasNoFault T E =
    (n : ℕ) (result : Result T E) (fault : E) (old new : DiskState)
    → Lowers n result old.stop new.stop → Caused (IsErrOf result fault) old new
    → IsTrue old.quiet → Allows n old.stop → IsErrOf result fault → ⊥
