use Rattle.std.proofs.Common.{◌≡◌, drop}
use Rattle.svc_values.specs.declared.value.Value.{Value}
use Rattle.table_store.proofs.Indexed.{has_either}
use Rattle.table_store.proofs.shelf.put_keys.Given as goal

-- the pairs with the rows that are left have what the first pairs with all rows had
abbrev pub invariant-loop-row : goal.invariant-loop-row
invariant-loop-row l = record {
  column : l.made.column ≡ l.fn.made.column;
  held : (v k : Value) → has_either (drop l.row-index l.rows) l.made.pairs.keys l.fn.made.column v k ≡ has_either l.rows l.fn.made.pairs.keys l.fn.made.column v k;
}
