use Rattle.std.proofs.Common.{ltb, rules}
use Rattle.std.proofs.lemmas.Bool.{ltb-true, ltb-false}
use Rattle.std.proofs.lemmas.List.Sorted.{IsPartitionPoint-from_clause, IsPartitionedBy-ltb}
use Rattle.whole_check.specs.declared.owned.OwnedAt.{OwnedAt}
use Rattle.whole_check.proofs.owned.count_before.Goals as goal

pub returns-clause-point : goal.returns-clause-point
returns-clause-point c =
    let parted = IsPartitionedBy-ltb (λ (one : OwnedAt). one.event) _ c.args.event c.requires in
    let point = IsPartitionPoint-from_clause (λ (one : OwnedAt). ltb one.event c.args.event) _ _ c.partition_point.ensures.partitioned parted (λ a r q k. search rules) in
    (λ k d from below. ltb-true _ _ (point.0 k d from below), λ k d from below. ltb-false _ _ (point.1 k d from below))
