use Rattle.std.proofs.Common.{arith, rules}
use Rattle.told_reports.proofs.place.is_of_frame.Goals as goal

pub returns-in-Refused : goal.returns-in-Refused
returns-in-Refused c = first_of (search rules, grind arith)

pub returns-in-Begin-matches : goal.returns-in-Begin-matches
returns-in-Begin-matches c = first_of (search rules, grind arith)
