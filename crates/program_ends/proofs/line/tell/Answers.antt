use Rattle.std.proofs.Common.{rules}
use Rattle.program_ends.proofs.line.tell.Goals as goal

pub returns : goal.returns
returns g c = search rules
