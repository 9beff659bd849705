use Rattle.std.proofs.Common.{rules}
use Rattle.report_horizons.proofs.horizons.is_past.Goals as goal

pub returns : goal.returns
returns c = search rules
