use Rattle.std.proofs.Common.{rules}
use Rattle.continuity_run.proofs.top.write_answer.Goals as goal

pub returns-in-Err-At-clause-told : goal.returns-in-Err-At-clause-told
returns-in-Err-At-clause-told g c = search rules
