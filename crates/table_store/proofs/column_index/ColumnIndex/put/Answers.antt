use Rattle.std.proofs.Common.{true}
use Rattle.table_store.proofs.Pairs.{pair_changed}
use Rattle.table_store.proofs.column_index.ColumnIndex.put.Goals as goal

pub returns-in_ok-insert-in-Some-clause-ok : goal.returns-in_ok-insert-in-Some-clause-ok
returns-in_ok-insert-in-Some-clause-ok c =
    rw c.in-Some.is (pair_changed c.args.self.now.pairs c.insert.new.self c.in-Some.value.now c.args.key.now c.in_ok-pair-in-Some.pair true c.in_ok-pair-in-Some.ensures c.in_ok-insert-in-Some.ensures.updates)
