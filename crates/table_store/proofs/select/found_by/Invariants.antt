use Rattle.table_store.proofs.Walks.{WalkedTo}
use Rattle.table_store.proofs.select.found_by.Given as goal

abbrev pub invariant-loop-pair : goal.invariant-loop-pair
invariant-loop-pair l = WalkedTo l.rows l.but l.index.column l.fn.test l.value l.pair-iterator l.found.entries
