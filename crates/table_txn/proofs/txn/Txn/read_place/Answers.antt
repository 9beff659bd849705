use Rattle.std.proofs.Common.{sym, subst}
use Rattle.table_txn.specs.Knowing.{is_known}
use Rattle.table_txn.specs.Readings.{StandWhere}
use Rattle.table_txn.specs.Transactions.{Transaction}
use Rattle.table_txn.proofs.txn.Txn.read_place.Goals as goal

pub add_if_any-requires : goal.add_if_any-requires
add_if_any-requires c = subst (λ (t : Transaction). StandWhere (is_known c.args.known) c.args.tables.now.rows t.readings) (sym c.self.view_is) c.requires
