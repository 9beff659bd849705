use Rattle.table_txn.proofs.Unchanged.{worked_unchanged}
use Rattle.table_txn.proofs.txn.Txn.work.Goals as goal

pub returns-clause-unchanged : goal.returns-clause-unchanged
returns-clause-unchanged c =
    worked_unchanged c.args.tables.now c.args.self.now c.read_place.new.self c.do_plan.new.self c.args.plan c.do_plan.result c.in_ok-committed.ensures.read c.do_plan.ensures
