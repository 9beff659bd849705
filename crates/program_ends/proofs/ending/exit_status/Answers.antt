use Rattle.std.proofs.Common.{rules}
use Rattle.program_ends.proofs.ending.exit_status.Goals as goal

pub returns : goal.returns
returns c = search rules
