use Rattle.std.proofs.Common.{rules}
use Rattle.continuity_run.proofs.top.answer.Goals as goal

pub returns-in-Err-clause-refused : goal.returns-in-Err-clause-refused
returns-in-Err-clause-refused c = search rules
