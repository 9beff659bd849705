use Rattle.std.proofs.Common.{sym, ◌∙◌, arith}
use Rattle.svc_values.specs.declared.tables.Place.TheVariants as place
use Rattle.stmt_meaning.proofs.TableScans.{found}
use Rattle.stmt_meaning.proofs.rows.row_at.Goals as goal

pub returns-then-stands_at : goal.returns-then-stands_at
returns-then-stands_at c =
    sym (found (place.Row c.args.table.now c.args.key.now) c.args.rows.now c.loop-row.row-index c.row-item.result (omega arith) c.row-item.is (sym c.stands_at.ensures ∙ c.if-stands_at.true) c.loop-row.invariant)
