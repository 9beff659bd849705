use Rattle.std.proofs.Common.{arith, rules, List, subst, suc, ◌≡◌, ◌-◌}
use Rattle.std.proofs.lemmas.List.Sorted.{IsPartitionPoint-from_clause}
use Rattle.svc_values.specs.declared.value.Value.{Value}
use Rattle.table_store.specs.Blocks.{begins_up_to}
use Rattle.table_store.proofs.Placed.{BegunAt, begun_parts, place_first, place_last}
use Rattle.table_store.proofs.blocks.place_of.Goals as goal

pub returns-then-begun-eq0-clause-place : goal.returns-then-begun-eq0-clause-place
returns-then-begun-eq0-clause-place c =
    let point = IsPartitionPoint-from_clause (λ (block : List (List Value)). begins_up_to c.args.key.now block) _ _ c.partition_point-begun.ensures.partitioned
    (begun_parts c.args.blocks.now c.args.key.now c.requires.filled c.requires.rising) (λ a r q k. search rules) in
    place_first c.args.key.now c.args.blocks.now c.requires.filled c.requires.rising (subst (BegunAt c.args.key.now c.args.blocks.now) c.if-begun-eq0.true point)

pub returns-clause-place : goal.returns-clause-place
returns-clause-place c =
    let point = IsPartitionPoint-from_clause (λ (block : List (List Value)). begins_up_to c.args.key.now block) _ _ c.partition_point-begun.ensures.partitioned
    (begun_parts c.args.blocks.now c.args.key.now c.requires.filled c.requires.rising) (λ a r q k. search rules) in
    let one : c.partition_point-begun.result ≡ suc (c.partition_point-begun.result - 1) = omega (arith, c.if-begun-eq0.false) in
    place_last c.args.key.now c.args.blocks.now (c.partition_point-begun.result - 1) c.requires.filled c.requires.rising (omega (arith, c.if-begun-eq0.false, c.partition_point-begun.ensures.bound)) (subst (BegunAt c.args.key.now c.args.blocks.now) one point)
