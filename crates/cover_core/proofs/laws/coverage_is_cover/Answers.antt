use Rattle.cover_core.proofs.Covering.{coverage_is}
use Rattle.cover_core.proofs.laws.coverage_is_cover.Goals as goal

pub returns : goal.returns
returns g c = coverage_is g.R.BoundRule.rules
