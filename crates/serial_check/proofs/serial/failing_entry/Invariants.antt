use Rattle.std.proofs.Common.{◌≡◌, drop}
use Rattle.table_txn.specs.Transactions.{shape_of}
use Rattle.serial_check.specs.meaning.Places.{entries_course}
use Rattle.serial_check.proofs.serial.failing_entry.Given as goal

abbrev pub invariant-loop-n : goal.invariant-loop-n
invariant-loop-n l = record {
  schemas : l.tables.schemas ≡ l.initial.tables.schemas;
  so_far : entries_course (shape_of l.initial.tables l.names) l.initial.tables.rows 0 l.entries ≡ entries_course (shape_of l.initial.tables l.names) l.tables.rows l.n (drop l.n l.entries);
}
