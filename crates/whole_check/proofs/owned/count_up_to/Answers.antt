use Rattle.std.proofs.Common.{leb, rules}
use Rattle.std.proofs.lemmas.Bool.{leb-true, leb-false}
use Rattle.std.proofs.lemmas.List.Sorted.{IsPartitionPoint-from_clause, IsPartitionedBy-leb}
use Rattle.whole_check.specs.declared.owned.OwnedAt.{OwnedAt}
use Rattle.whole_check.proofs.owned.count_up_to.Goals as goal

pub returns-clause-point : goal.returns-clause-point
returns-clause-point c =
    let parted = IsPartitionedBy-leb (λ (one : OwnedAt). one.event) _ c.args.event c.requires in
    let point = IsPartitionPoint-from_clause (λ (one : OwnedAt). leb one.event c.args.event) _ _ c.partition_point.ensures.partitioned parted (λ a r q k. search rules) in
    (λ k d from below. leb-true _ _ (point.0 k d from below), λ k d from below. leb-false _ _ (point.1 k d from below))
