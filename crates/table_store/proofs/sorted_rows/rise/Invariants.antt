use Rattle.std.proofs.Common.{◌≡◌, drop}
use Rattle.std.specs.Prelude.{None}
use Rattle.std.specs.Option.{option_copied, option_map}
use Rattle.svc_values.specs.meaning.Schemas.{key_of}
use Rattle.table_store.specs.Blocks.{rise_behind}
use Rattle.table_store.proofs.sorted_rows.rise.Given as goal

abbrev pub invariant-loop-row : goal.invariant-loop-row
invariant-loop-row l = rise_behind (option_map key_of (option_copied l.last)) (drop l.row-index l.rows) ≡ rise_behind None l.rows
