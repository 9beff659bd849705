use Rattle.std.proofs.Common.{sym, subst}
use Rattle.table_txn.specs.Knowing.{is_known}
use Rattle.table_txn.specs.Readings.{StandWhere}
use Rattle.calls_again.specs.OnWay.{OnWay}
use Rattle.calls_again.proofs.going.Going.run.Goals as goal

pub work-requires-clause-stands : goal.work-requires-clause-stands
work-requires-clause-stands c = subst (λ (g : OnWay). StandWhere (is_known c.args.known) c.args.tables.now.rows g.readings) (sym c.self.view_is) c.requires.stands
