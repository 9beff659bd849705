use Rattle.std.specs.Range.Bound.{bound_map}
use Rattle.table_txn.proofs.ScanSteps.{AreLeft, AnswersSo}
use Rattle.table_txn.proofs.scanning.show_over.Given as goal

abbrev pub invariant-loop-key : goal.invariant-loop-key
invariant-loop-key l = record {
  keys : AreLeft l.tables.rows l.own l.table (bound_map (λ x. x.now) l.from) l.key-iterator;
  answers : AnswersSo l.tables.rows l.own l.table l.fn.scan l.scan (bound_map (λ x. x.now) l.from);
}
