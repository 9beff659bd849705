use Rattle.std.proofs.Common.{◌≡◌, [], take}
use Rattle.std.specs.Prelude.{Some}
use Rattle.stmt_meaning.specs.meaning.Meaning.{seen_at}
use Rattle.svc_values.specs.declared.tables.Place.TheVariants as place
use Rattle.stmt_meaning.proofs.rows.row_at.Given as goal

abbrev pub invariant-loop-row : goal.invariant-loop-row
invariant-loop-row l = seen_at (take l.row-index l.rows) (Some (place.Row l.table l.key)) ≡ []
