use Rattle.std.proofs.Common.{◌≡◌, List, ◌++◌, drop}
use Rattle.std.specs.Prelude.{fold}
use Rattle.svc_values.specs.declared.value.Value.{Value}
use Rattle.stmt_meaning.specs.InnerScans.{next_scan, last_answer}
use Rattle.table_txn.proofs.scanning.show_rows.Given as goal

abbrev pub invariant-loop-row : goal.invariant-loop-row
invariant-loop-row l = (more : List (List Value)) → last_answer (fold next_scan l.scan (drop l.row-index l.rows ++ more)) ≡ last_answer (fold next_scan l.fn.scan (l.rows ++ more))
