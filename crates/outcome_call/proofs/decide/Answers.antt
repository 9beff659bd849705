use Rattle.std.proofs.Common.{rules}
use Rattle.outcome_call.proofs.decide.Goals as goal

pub returns-then-x-horizon : goal.returns-then-x-horizon
returns-then-x-horizon c = search rules

pub returns-then-state : goal.returns-then-state
returns-then-state c = search rules

pub returns-else-state : goal.returns-else-state
returns-else-state c = search rules

pub returns-then-x-next-2 : goal.returns-then-x-next-2
returns-then-x-next-2 c = search rules

pub returns-then-x-next-3 : goal.returns-then-x-next-3
returns-then-x-next-3 c = search rules

pub returns-else-x-next-3 : goal.returns-else-x-next-3
returns-else-x-next-3 c = search rules
