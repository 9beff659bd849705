use Rattle.std.proofs.Common.{◌≡◌, drop}
use Rattle.stmt_meaning.proofs.Working.{SoFar}
use Rattle.stmt_meaning.proofs.rows.run_statements.Given as goal

abbrev pub invariant-loop-statement : goal.invariant-loop-statement
invariant-loop-statement l = record {
  so_far : SoFar (record { schemas = l.schemas; sequences = l.fn.source.names }) l.tables l.settings l.statements l.fn.source l.source l.worked (drop l.statement-index l.statements);
  names : l.source.names ≡ l.fn.source.names;
}
