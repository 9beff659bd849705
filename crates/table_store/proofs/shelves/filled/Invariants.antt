use Rattle.std.proofs.Common.{◌≡◌, ◌++◌, List}
use Rattle.svc_values.specs.declared.tables.PlainRow.{PlainRow}
use Rattle.table_store.specs.Given.{plain}
use Rattle.table_store.specs.Rows.{IsShelved}
use Rattle.table_store.proofs.Filled.{HasRows}
use Rattle.table_store.proofs.shelves.filled.Given as goal

-- the maps have the rows of the first tables
abbrev pub invariant-loop-one : goal.invariant-loop-one
invariant-loop-one l =
    (before : List PlainRow) × ((before ++ plain l.one-iterator.rest.items ≡ plain l.fn.tables.items) × (IsShelved l.shelves.entries × HasRows l.shelves.entries before))
