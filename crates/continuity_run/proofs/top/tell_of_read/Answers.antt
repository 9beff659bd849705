use Rattle.std.proofs.Common.{rules}
use Rattle.continuity_run.proofs.top.tell_of_read.Goals as goal

pub returns-in-Err-Failed-clause-kept : goal.returns-in-Err-Failed-clause-kept
returns-in-Err-Failed-clause-kept g c = search rules
