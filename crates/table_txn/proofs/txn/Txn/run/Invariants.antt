use Rattle.std.proofs.Common.{◌≡◌, true, drop}
use Rattle.svc_values.specs.meaning.Fitting.{writes_fit}
use Rattle.table_txn.specs.Readings.{StayUnchanged}
use Rattle.table_txn.proofs.Running.{SoFar}
use Rattle.table_txn.proofs.txn.Txn.run.Given as goal

abbrev pub invariant-loop-statement : goal.invariant-loop-statement
invariant-loop-statement g l = record {
  so_far : SoFar g.F.DrawFrom.drew l.tables (g.F.DrawFrom.names l.fn.draws) l.settings l.fn.self l.statements l.fn.draws l.answers.items l.drawn.items l.self l.draws (drop l.statement-index l.statements);
  fits : writes_fit l.tables.schemas l.self.writes ≡ true;
  unchanged : StayUnchanged l.tables.rows l.fn.self.readings l.self.readings;
  items : l.statement-items ≡ l.statements;
  names : g.F.DrawFrom.names l.draws ≡ g.F.DrawFrom.names l.fn.draws;
  ready : g.F.DrawFrom.is_ready l.draws;
}
