use Rattle.serial_check.proofs.SerialPlaces.{serial_none}
use Rattle.serial_check.proofs.laws.serial_is_placed.Goals as goal

pub returns : goal.returns
returns c = serial_none
