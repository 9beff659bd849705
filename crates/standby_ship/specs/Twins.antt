-- What a pair has within, and its state.
use Rattle.std.specs.Prelude.{◌+◌, ◌&&◌, ℕ, Bool, true, Option, Some, None, is_some, if◌then◌else◌}
use Rattle.disk_model.specs.Disk.{DiskState}
use Rattle.redo_store.specs.declared.redo.Redo.{Redo}
use Rattle.server_model.specs.Seen.{ServiceState}
use Rattle.service_core.specs.Within.{Within}
use Rattle.service_core.specs.Seeing.{state_in as state_of_one}

-- the second store: its disk, and where its records end while it is shipped to
pub record Second : Type 0 where
  pub disk : DiskState
  pub store : Option Redo

-- `lost` is the disk of the first store behind a failover. It is never called again: its count of
-- faults stays in the pair's.
pub record Twin : Type 0 where
  pub primary : Within
  pub second : Option Second
  pub lost : Option DiskState
  pub is_opened : Bool
  pub is_spent : Bool

abbrev pub faults_of : Option DiskState → ℕ
faults_of None = 0
faults_of (Some disk) = disk.faults

abbrev pub quiet_of : Option DiskState → Bool
quiet_of None = true
quiet_of (Some disk) = disk.quiet

abbrev pub disk_in : Option Second → Option DiskState
disk_in None = None
disk_in (Some second) = Some second.disk

-- four device calls in each store
abbrev pub per_record_in : Option Second → ℕ
per_record_in second = if is_some second then 8 else 4

-- The state is that of the first store's service, but for what both stores have a part in. Its stop
-- is the first disk's, and the number of its crashes with the pick and the stop of the last one is
-- the first service's, which goes on behind a failover.
abbrev pub state_in : Twin → ServiceState
state_in pair = record (state_of_one pair.primary) {
  is_opened = pair.is_opened;
  faults = pair.primary.disk.faults + faults_of (disk_in pair.second) + faults_of pair.lost;
  is_quiet = pair.primary.disk.quiet && (quiet_of (disk_in pair.second) && quiet_of pair.lost);
  per_record = per_record_in pair.second;
  is_spent = pair.is_spent;
}
