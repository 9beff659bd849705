use Rattle.std.proofs.Common.{arith, rules}
use Rattle.told_reports.proofs.place.fits_event.Goals as goal

pub returns-then-event-last : goal.returns-then-event-last
returns-then-event-last c = first_of (search rules, grind arith)
