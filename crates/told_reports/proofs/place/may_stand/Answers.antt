use Rattle.std.proofs.Common.{arith, rules}
use Rattle.told_reports.proofs.place.may_stand.Goals as goal

pub returns-in-Crash : goal.returns-in-Crash
returns-in-Crash c = first_of (search rules, grind arith)
