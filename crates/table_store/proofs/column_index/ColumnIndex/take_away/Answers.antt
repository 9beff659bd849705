use Rattle.std.proofs.Common.{false}
use Rattle.table_store.proofs.Pairs.{pair_changed}
use Rattle.table_store.proofs.column_index.ColumnIndex.take_away.Goals as goal

pub returns-in_ok-pair-in-Some-clause-ok : goal.returns-in_ok-pair-in-Some-clause-ok
returns-in_ok-pair-in-Some-clause-ok c =
    rw c.in-Some.is (pair_changed c.args.self.now.pairs c.remove.new.self c.in-Some.value.now c.args.key.now c.in_ok-pair-in-Some.pair false c.in_ok-pair-in-Some.ensures c.remove.ensures.updates)
