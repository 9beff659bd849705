use Rattle.std.proofs.Common.{◌≡◌, drop}
use Rattle.svc_values.specs.declared.value.Value.{Value}
use Rattle.table_store.specs.Blocks.{rows_in}
use Rattle.table_store.specs.Indexes.{has_value}
use Rattle.table_store.proofs.Indexed.{has_either}
use Rattle.table_store.proofs.shelf.index_of.Given as goal

-- the pairs with the rows that are left have what all rows have
abbrev pub invariant-loop-block : goal.invariant-loop-block
invariant-loop-block l = record {
  column : l.made.column ≡ l.column;
  held : (v k : Value) → has_either (rows_in (drop l.block-index l.block-items)) l.made.pairs.keys l.column v k ≡ has_value (rows_in l.block-items) l.column v k;
}
