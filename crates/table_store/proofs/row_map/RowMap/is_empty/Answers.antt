use Rattle.std.proofs.Common.{List, length, ap, ◌∙◌}
use Rattle.std.specs.Bool.{◌==◌}
use Rattle.svc_values.specs.declared.value.Value.{Value}
use Rattle.table_store.specs.Rows.{Keyed}
use Rattle.table_store.proofs.Placed.{none_in}
use Rattle.table_store.proofs.row_map.RowMap.is_empty.Goals as goal

pub returns : goal.returns
returns c =
    c.is_empty.ensures ∙ ap (λ (l : List (List (List Value))). length l == 0) (c.as_slice.ensures.value ∙ ap (λ v. v.items) c.deref.ensures) ∙ none_in c.self.inside.blocks.value.items c.self.invariant.0
    ∙ ap (λ (es : Keyed). length es == 0) c.self.view_is
