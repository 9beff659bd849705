use Rattle.std.proofs.Common.{sym, subst}
use Rattle.table_txn.specs.Readings.{HadThere, HasRead, HasReadIfAny}
use Rattle.table_txn.proofs.readings.Readings.add_if_any.Goals as goal

pub add_known-requires-clause-had : goal.add_known-requires-clause-had
add_known-requires-clause-had c = λ known. subst (HadThere c.args.self.now c.in-Some.at) c.committed_at-committed.ensures.stands (c.requires c.in-Some.at known)

pub returns-clause-read : goal.returns-clause-read
returns-clause-read c =
    subst (λ at. HasReadIfAny c.args.tables.now.rows c.args.self.now at c.add_known.new.self) (sym c.in-Some.is)
    (subst (λ rows. HasRead c.args.self.now c.in-Some.at rows c.add_known.new.self) (sym c.committed_at-committed.ensures.stands) c.in_ok-add_known.ensures)
