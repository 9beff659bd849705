use Rattle.std.proofs.Common.{length, ◌-◌}
use Rattle.report_horizons.specs.Horizons.{all_ended, IsFront}
use Rattle.report_horizons.proofs.horizons.further.Given as goal

abbrev pub invariant-loop-passed : goal.invariant-loop-passed
invariant-loop-passed l = IsFront l.retention l.tick (record { passed = l.passed; most = l.most }) (all_ended l.ended)

abbrev pub decreases-loop-passed : goal.decreases-loop-passed
decreases-loop-passed l = length l.ended - l.passed
