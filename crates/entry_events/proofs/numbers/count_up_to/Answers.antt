use Rattle.std.proofs.Common.{rules}
use Rattle.std.specs.Ordering.{is_le}
use Rattle.std.proofs.lemmas.List.Sorted.{IsPartitionPoint-from_clause}
use Rattle.entry_events.specs.Numbering.{key_cmp}
use Rattle.entry_events.proofs.Ranks.{Key, up_to_parts}
use Rattle.entry_events.proofs.numbers.count_up_to.Goals as goal

pub returns-clause-point : goal.returns-clause-point
returns-clause-point c =
    IsPartitionPoint-from_clause (λ (key : Key). is_le (key_cmp key c.args.limit.now)) _ _ c.partition_point.ensures.partitioned
    (up_to_parts c.args.keys.now c.args.limit.now c.requires) (λ a r q k. search rules)
