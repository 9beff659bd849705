use Rattle.std.proofs.Common.{List, sym, subst, ap, ◌∙◌}
use Rattle.svc_values.specs.declared.value.Value.{Value}
use Rattle.table_store.specs.Blocks.{AreFilled, entries_in}
use Rattle.table_store.specs.Rows.{KeysRise}
use Rattle.table_store.proofs.Placed.{none_rise}
use Rattle.table_store.proofs.row_map.RowMap.new.Goals as goal

pub invariant_of-result : goal.invariant_of-result
invariant_of-result c =
    let none = ap (λ v. v.items) c.in_ok-blocks.ensures.ok ∙ c.new.ensures.items in
    subst (λ (l : List (List (List Value))). AreFilled l × KeysRise (entries_in l)) (sym none) (tt, none_rise)
