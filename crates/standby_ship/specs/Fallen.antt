-- What a crash does to the second store, and to the first one where the second takes its place.
use Rattle.std.specs.Prelude.{◌≡◌, ℕ, List, Option, Some, None}
use Rattle.disk_model.specs.Moment.{MayLeave}
use Rattle.disk_model.specs.Disk.{DiskState, IsSettled}
use Rattle.commit_log.specs.declared.base.Base.{Base as Begun}
use Rattle.service_calls.specs.Kept.{HaveOneBase}
use Rattle.service_core.specs.Seeing.{bytes_in}
use Rattle.service_core.specs.Shipping.{taken}
use Rattle.service_core.specs.Sound.{HasFaultRoom, Reads}
use Rattle.service_core.specs.Within.{Within}
use Rattle.standby_ship.specs.Twins.{Second}

-- ---- both crash

-- it has what its disk left
pub record SecondFell (before after : Second) : Type 0 where
  pub left : MayLeave before.disk.now after.disk.now.seen
  pub durable : IsSettled after.disk
  pub reads_now : MayLeave after.disk.now after.disk.now.seen
  pub faults : after.disk.faults ≡ before.disk.faults
  pub quiet : after.disk.quiet ≡ before.disk.quiet

abbrev pub FellSome : Option Second → Option Second → Type 0
FellSome None None = Unit {0}
FellSome (Some before) (Some after) = SecondFell before after
FellSome None (Some after) = ⊥
FellSome (Some before) None = ⊥

-- ---- the first one is lost

-- a service may go on over the second one
pub record MayGoOn (primary : Within) (second : Second) : Type 0 where
  pub room : HasFaultRoom second.disk.faults primary.notes
  pub base : HaveOneBase (bytes_in primary) second.disk.now.seen
  pub begun : Begun
  pub journals : (image : List ℕ) → MayLeave second.disk.now image → Reads begun primary.notes image

abbrev pub MayTakeOver : Within → Option Second → Type 0
MayTakeOver primary None = Unit {0}
MayTakeOver primary (Some second) = MayGoOn primary second

-- With a second store that is the service's, and the first one's disk is the lost one. With none
-- nothing is done.
pub record IsTakenOver (old new : Within) (second : Second) (later : Option Second)
    (lost : Option DiskState) : Type 0 where
  pub primary : new ≡ taken old second.disk
  pub none : later ≡ None
  pub lost_is : lost ≡ Some old.disk

pub record IsKeptOver (old new : Within) (later : Option Second)
    (before lost : Option DiskState) : Type 0 where
  pub primary : new ≡ old
  pub none : later ≡ None
  pub lost_is : lost ≡ before

abbrev pub TookOver : Within → Within → Option Second → Option Second → Option DiskState
    → Option DiskState → Type 0
TookOver old new None later before lost = IsKeptOver old new later before lost
TookOver old new (Some second) later before lost = IsTakenOver old new second later lost
