use Rattle.std.proofs.Common.{◌≡◌, ◌++◌, List, drop}
use Rattle.svc_values.specs.declared.value.Value.{Value}
use Rattle.table_store.specs.Blocks.{rows_from, same_rows}
use Rattle.table_store.proofs.walk.behind.Given as goal

-- what is left stands from here on as all rows stand from the first place on
abbrev pub invariant-loop-row : goal.invariant-loop-row
invariant-loop-row l =
    (rest : List (List Value)) → same_rows (rows_from l.blocks l.at) (drop l.row-index l.rows ++ rest) ≡ same_rows (rows_from l.blocks l.fn.at) (l.rows ++ rest)
