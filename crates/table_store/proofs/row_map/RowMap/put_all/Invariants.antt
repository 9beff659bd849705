use Rattle.std.proofs.Common.{◌≡◌, map}
use Rattle.std.specs.Map.{update_all}
use Rattle.std.specs.Ordering.{eq_by_cmp}
use Rattle.svc_values.specs.declared.value.Value.{Value}
use Rattle.svc_values.specs.meaning.Order.{value_cmp}
use Rattle.table_store.specs.Given.{keyed}
use Rattle.table_store.specs.Rows.{KeysRise, keyed_of}
use Rattle.table_store.proofs.row_map.RowMap.put_all.Given as goal

-- what is left comes to what all rows come to
abbrev pub invariant-loop-row : goal.invariant-loop-row
invariant-loop-row l =
    KeysRise l.self
    × ((q : Value) → update_all (eq_by_cmp value_cmp) (keyed_of l.self) (map keyed l.row-iterator.rest.items) q ≡ update_all (eq_by_cmp value_cmp) (keyed_of l.fn.self) (map keyed l.fn.rows.items) q)
