use Rattle.std.proofs.Common.{rules}
use Rattle.serial_check.proofs.asked.index_by.Goals as goal

pub returns : goal.returns
returns c = search rules
