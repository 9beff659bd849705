use Rattle.std.proofs.Common.{◌≡◌, take}
use Rattle.std.specs.Prelude.{Some}
use Rattle.stmt_meaning.specs.meaning.Meaning.{seen_at}
use Rattle.stmt_meaning.specs.InnerScans.{scanned}
use Rattle.svc_values.specs.declared.tables.Place.TheVariants as place
use Rattle.stmt_meaning.proofs.rows.scan_table.Given as goal

abbrev pub invariant-loop-row : goal.invariant-loop-row
invariant-loop-row l = l.scan ≡ scanned l.fn.work (seen_at (take l.row-index l.rows) (Some (place.Table l.table)))
