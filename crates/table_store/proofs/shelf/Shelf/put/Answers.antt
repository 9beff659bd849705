use Rattle.std.proofs.Common.{Some}
use Rattle.table_store.specs.Indexes.{with_row}
use Rattle.table_store.specs.Rows.{keyed_of}
use Rattle.table_store.proofs.Indexed.{same_indexed}
use Rattle.table_store.proofs.shelf.Shelf.put.Goals as goal

pub invariant_of-self-2 : goal.invariant_of-self-2
invariant_of-self-2 c =
    same_indexed (with_row (keyed_of c.self.inside.rows) c.args.key.now (Some c.args.row)) (keyed_of c.put.new.self) c.in_ok-put.ensures.ok c.in_ok-indexes.indexes.items c.in_ok-indexes.ensures.made
