use Rattle.std.proofs.Common.{rules}
use Rattle.std.specs.Prelude.{nat_lt}
use Rattle.std.proofs.lemmas.List.Sorted.{IsPartitionPoint-from_clause}
use Rattle.report_horizons.specs.declared.wanted_horizons.Opening.{Opening}
use Rattle.report_horizons.proofs.Ordered.{parted}
use Rattle.report_horizons.proofs.wanted_horizons.count_before.Goals as goal

pub returns-clause-point : goal.returns-clause-point
returns-clause-point c =
    IsPartitionPoint-from_clause (λ (one : Opening). nat_lt one.event c.args.event) _ _ c.partition_point.ensures.partitioned
    (parted c.args.openings.now c.args.greatest c.args.event c.requires) (λ a r q k. search rules)
