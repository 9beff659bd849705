-- A pair as it is made.
use Rattle.std.specs.Prelude.{[], Some, None, false}
use Rattle.disk_model.specs.Disk.{DiskState}
use Rattle.mutable_values.specs.declared.grants.Grants.{Grants}
use Rattle.server_model.specs.meaning.Base.{Base}
use Rattle.server_model.specs.Seen.{Seen}
use Rattle.service_core.specs.Starting.{made_on}
use Rattle.service_core.specs.Within.{Within}
use Rattle.standby_ship.specs.Twins.{Twin, state_in}

-- the service of the first store, and a second store on this disk
abbrev pub with_second : Within → DiskState → Twin
with_second primary second = record {
  primary = primary;
  second = Some (record { disk = second; store = None });
  lost = None;
  is_opened = false;
  is_spent = false;
}

-- it is down on these disks
abbrev pub made_of : DiskState → DiskState → Grants → Twin
made_of primary second grants = with_second (made_on primary grants) second

-- what is seen of a pair with this beginning, and nothing before
abbrev pub seen_new : Twin → Base → Seen
seen_new pair start = record { start = start; history = []; state = state_in pair }
