use Rattle.std.proofs.Common.{◌≡◌, ◌++◌, drop}
use Rattle.run_clauses.specs.meaning.Blocks.{answered_in}
use Rattle.report_moments.specs.Views.{moments_as}
use Rattle.stored_check.specs.Blocking.{all_answered}
use Rattle.stored_check.proofs.blocks.answered_in.Given as goal

abbrev pub invariant-loop-moment : goal.invariant-loop-moment
invariant-loop-moment l = all_answered l.all.items ++ answered_in (moments_as (drop l.moment-index l.moments)) ≡ answered_in (moments_as l.moments)
