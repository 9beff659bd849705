use Rattle.std.proofs.Common.{◌≡◌, drop}
use Rattle.std.specs.Prelude.{IsTrue}
use Rattle.svc_values.specs.meaning.Fitting.{writes_fit}
use Rattle.svc_values.specs.meaning.Tables.{with_writes}
use Rattle.table_txn.specs.Readings.{AreUnchanged}
use Rattle.table_txn.specs.Transactions.{shape_of}
use Rattle.serial_check.specs.meaning.Places.{pieces_course}
use Rattle.serial_check.proofs.Courses.{course_left}
use Rattle.serial_check.proofs.transaction.run_again.Given as goal

abbrev pub invariant-loop-p : goal.invariant-loop-p
invariant-loop-p l = record {
  so_far : pieces_course (shape_of l.tables l.names) l.tables.rows l.settings l.n 0 l.pieces
      ≡ course_left (shape_of l.tables l.names) (with_writes l.tables.rows l.going.writes) l.going.settings l.n l.p (drop l.p l.pieces);
  fits : IsTrue (writes_fit l.tables.schemas l.going.writes);
  unchanged : AreUnchanged l.tables.rows l.going.readings;
}
