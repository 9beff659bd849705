use Rattle.table_txn.proofs.LatestLaws.{changed_there}
use Rattle.table_txn.proofs.latest.restore.Goals as goal

pub returns-in-Some : goal.returns-in-Some
returns-in-Some c =
    changed_there c.args.latest.now (c.get_mut.follows.lender c.restore_key.new.keys) c.args.table.now c.args.key.now c.args.before c.in-Some.keys.now c.restore_key.new.keys c.in-Some.ensures.value (c.get_mut.follows.holds c.restore_key.new.keys) c.restore_key.ensures
