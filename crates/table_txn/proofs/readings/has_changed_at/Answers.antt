use Rattle.std.proofs.Common.{sym, subst, ◌∙◌}
use Rattle.std.specs.Prelude.{IsTrue}
use Rattle.table_txn.specs.Knowing.{is_known}
use Rattle.table_txn.specs.Found.{kept, reading}
use Rattle.table_txn.proofs.FoundLaws.{changed_is}
use Rattle.table_txn.proofs.Unchanged.{stood}
use Rattle.table_txn.proofs.readings.has_changed_at.Goals as goal

pub returns-then-is_known : goal.returns-then-is_known
returns-then-is_known c = sym (stood c.args.tables.now.rows (reading (c.args.at.now, c.args.there.now)) (c.requires.stands (subst (λ t. IsTrue (is_known c.args.known t)) c.table_of.ensures (sym c.is_known.ensures ∙ c.if-is_known.true))))

pub returns : goal.returns
returns c = c.has_changed.ensures ∙ changed_is c.args.tables.now.rows c.args.at.now c.args.there.now (kept c.committed_at.result) c.requires.kind c.committed_at.ensures
