use Rattle.std.proofs.Common.{List, map, sym, subst, ap, ◌∙◌}
use Rattle.svc_values.specs.declared.value.Value.{Value}
use Rattle.table_store.specs.Blocks.{AreFilled, entries_in}
use Rattle.table_store.specs.Given.{keyed}
use Rattle.table_store.specs.Rows.{KeysRise}
use Rattle.table_store.proofs.row_map.RowMap.fill.Goals as goal

pub invariant_of-self : goal.invariant_of-self
invariant_of-self c =
    subst (λ v. AreFilled v.items × KeysRise (entries_in v.items)) (sym c.in_ok-self-inside.ensures.ok)
    (c.in_ok-filled.ensures.filled, subst (λ (l : List (List Value)). KeysRise (map keyed l)) (sym c.in_ok-filled.ensures.rows) c.requires)

pub returns-clause-ok : goal.returns-clause-ok
returns-clause-ok c = ap (λ v. entries_in v.items) c.in_ok-self-inside.ensures.ok ∙ ap (map keyed) c.in_ok-filled.ensures.rows
