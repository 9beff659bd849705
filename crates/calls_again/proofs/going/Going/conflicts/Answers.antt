use Rattle.std.proofs.Common.{sym, subst}
use Rattle.table_txn.specs.Knowing.{is_known}
use Rattle.table_txn.specs.Readings.{AreReadings, StandWhere}
use Rattle.calls_again.specs.OnWay.{OnWay}
use Rattle.calls_again.proofs.going.Going.conflicts.Goals as goal

pub conflicts-requires : goal.conflicts-requires
conflicts-requires c = subst (λ (g : OnWay). StandWhere (is_known c.args.known) c.args.tables.now.rows g.readings) (sym c.self.view_is) c.requires

pub returns : goal.returns
returns c = λ reads are. c.conflicts.ensures reads (subst (λ (g : OnWay). AreReadings g.readings reads) (sym c.self.view_is) are)
