use Rattle.std.proofs.Common.{◌≡◌, rules, List, sym, subst, ap, ◌∙◌}
use Rattle.std.specs.Map.{values_of}
use Rattle.std.specs.Result.{IfOk}
use Rattle.svc_values.specs.declared.value.Value.{Value}
use Rattle.table_store.specs.Blocks.{rows_in}
use Rattle.table_store.proofs.Rising.{values_keyed}
use Rattle.table_store.proofs.row_map.RowMap.into_rows.Goals as goal
use Rattle.table_store.proofs.row_map.RowMap.into_rows.Goals.{in-Ok, in-Err+in_ok-blocks-in-Err}

pub returns : goal.returns
returns c =
    let same : c.match-try_unwrap.blocks.items ≡ c.self.inside.blocks.value.items = elim c.match-try_unwrap.branch [
      | in-Ok w ↦ search rules
      | in-Err+in_ok-blocks-in-Err w ↦ search rules
    ] in
    let rows = ap rows_in same ∙ sym (values_keyed (rows_in c.self.inside.blocks.value.items)) ∙ ap values_of c.self.view_is in
    subst (λ (l : List (List Value)). IfOk c.into_rows.result (λ rows. rows.items ≡ l)) rows c.into_rows.ensures
