use Rattle.std.proofs.Common.{sym, subst}
use Rattle.table_txn.specs.Found.{found_rows, kept}
use Rattle.table_txn.specs.Readings.{HadThere}
use Rattle.table_txn.proofs.readings.Readings.add_unchanged.Goals as goal

pub read_as_before-requires : goal.read_as_before-requires
read_as_before-requires c = record {
  kind = c.requires.kind;
  before = subst (λ l. HadThere l c.args.at (found_rows c.args.at (kept c.args.committed))) (sym c.self.view_is) c.requires.had;
  kinds = c.self.invariant;
}
