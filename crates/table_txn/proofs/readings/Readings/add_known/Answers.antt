use Rattle.std.proofs.Common.{sym, subst, ◌∙◌}
use Rattle.std.specs.Prelude.{IsTrue}
use Rattle.table_txn.specs.Knowing.{is_known}
use Rattle.table_txn.proofs.readings.Readings.add_known.Goals as goal

pub add_unchanged-requires-clause-had : goal.add_unchanged-requires-clause-had
add_unchanged-requires-clause-had c = c.requires.had (subst (λ t. IsTrue (is_known c.args.known t)) c.table_of.ensures (sym c.is_known.ensures ∙ c.if-is_known.true))
