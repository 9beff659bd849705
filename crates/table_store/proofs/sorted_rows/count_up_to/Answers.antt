use Rattle.std.proofs.Common.{rules, List}
use Rattle.std.proofs.lemmas.List.Sorted.{IsPartitionPoint-from_clause}
use Rattle.svc_values.specs.declared.value.Value.{Value}
use Rattle.table_store.specs.Blocks.{is_up_to}
use Rattle.table_store.proofs.Rising.{up_to_parts}
use Rattle.table_store.proofs.sorted_rows.count_up_to.Goals as goal

pub returns-clause-point : goal.returns-clause-point
returns-clause-point c =
    IsPartitionPoint-from_clause (λ (row : List Value). is_up_to c.args.key.now row) _ _ c.partition_point.ensures.partitioned
    (up_to_parts c.args.rows.now c.args.key.now c.requires) (λ a r q k. search rules)
