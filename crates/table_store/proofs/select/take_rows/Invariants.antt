use Rattle.std.proofs.Common.{◌++◌, drop, map}
use Rattle.table_store.specs.Given.{keyed}
use Rattle.table_store.proofs.Takes.{FoundUpTo, wanted_of}
use Rattle.table_store.proofs.select.take_rows.Given as goal

abbrev pub invariant-loop-row : goal.invariant-loop-row
invariant-loop-row l = FoundUpTo l.but l.column l.test l.value (l.fn.found.entries ++ wanted_of l.but l.column l.test l.value (map keyed l.rows)) (map keyed (drop l.row-index l.rows)) l.found.entries
