-- What a service has within.
use Rattle.std.specs.Prelude.{Option}
use Rattle.disk_model.specs.Disk.{DiskState}
use Rattle.mutable_values.specs.declared.grants.Grants.{Grants}
use Rattle.server_session.specs.declared.shared.Core.{Core}
use Rattle.service_core.specs.declared.notes.Notes.{Notes}
use Rattle.service_core.specs.Held.{Held}

-- with the state of its disk
pub record Within : Type 0 where
  pub grants : Grants
  pub disk : DiskState
  pub core : Option Core
  pub held : Held
  pub notes : Notes
