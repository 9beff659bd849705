use Rattle.std.proofs.Common.{◌≡◌, true}
use Rattle.table_txn.specs.Knowing.{is_known}
use Rattle.table_txn.specs.Readings.{first_changed}
use Rattle.table_txn.specs.Found.{readings_of, are_for}
use Rattle.table_txn.proofs.FoundLaws.{EachStood}
use Rattle.table_txn.proofs.readings.Readings.first_changed.Given as goal

abbrev pub invariant-loop-at : goal.invariant-loop-at
invariant-loop-at l = record {
  rest : first_changed l.tables.rows (readings_of l.at-iterator) ≡ first_changed l.tables.rows l.self;
  are_for : are_for l.at-iterator ≡ true;
  stood : EachStood (is_known l.known) l.tables.rows l.at-iterator;
}
