use Rattle.std.proofs.Common.{rules}
use Rattle.report_horizons.proofs.wanted_horizons.is_before.Goals as goal

pub returns : goal.returns
returns c = search rules
