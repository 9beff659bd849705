use Rattle.svc_values.specs.Tables.{AreTables}
use Rattle.table_txn.proofs.Selects.{AreLast, FoundBefore}
use Rattle.table_txn.proofs.selecting.select_over.Given as goal

abbrev pub invariant-loop-key : goal.invariant-loop-key
invariant-loop-key l =
    AreLast l.own l.table l.key-iterator
    × ((ordered : AreTables l.tables.rows) × FoundBefore l.tables.rows ordered l.own l.table l.sought.column l.sought.test l.sought.value l.key-iterator l.found.entries)
