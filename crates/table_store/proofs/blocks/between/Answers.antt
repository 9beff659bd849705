use Rattle.std.proofs.Common.{List, ap, ◌∙◌}
use Rattle.std.proofs.lemmas.Slice.{between_is as cut_is}
use Rattle.std.specs.BTreeMap.Range.{entries_between}
use Rattle.std.specs.Range.Bound.{bound_map}
use Rattle.svc_values.specs.declared.value.Value.{Value}
use Rattle.svc_values.specs.meaning.Order.{value_cmp}
use Rattle.table_store.specs.Blocks.{entries_in}
use Rattle.table_store.proofs.Placed.{middle_is, middle_none}
use Rattle.table_store.proofs.blocks.between.Goals as goal

pub returns-then-start-end : goal.returns-then-start-end
returns-then-start-end c =
    let lo = bound_map (λ x. x.now) c.args.from in
    let hi = bound_map (λ x. x.now) c.args.to in
    middle_none lo hi c.args.blocks.now c.start_of-start.result c.end_of-end.result (c.start_of-start.ensures.outside hi) (c.end_of-end.ensures.outside lo) c.if-start-end.true

pub returns : goal.returns
returns c =
    let lo = bound_map (λ x. x.now) c.args.from in
    let hi = bound_map (λ x. x.now) c.args.to in
    ap (λ (l : List (List (List Value))). entries_between value_cmp lo hi (entries_in l)) (cut_is c.args.blocks.now c.start_of-start.result c.end_of-end.result)
    ∙ middle_is lo hi c.args.blocks.now c.start_of-start.result c.end_of-end.result (c.start_of-start.ensures.outside hi) (c.end_of-end.ensures.outside lo)
