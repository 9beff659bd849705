use Rattle.serial_check.proofs.FreshPlaces.{fresh_none}
use Rattle.serial_check.proofs.laws.fresh_is_placed.Goals as goal

pub returns : goal.returns
returns c = fresh_none
