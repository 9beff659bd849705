use Rattle.std.proofs.Common.{None, refl}
use Rattle.table_txn.proofs.LatestLaws.{key_changed, key_there}
use Rattle.table_txn.proofs.latest.restore_key.Goals as goal

pub returns-in_default : goal.returns-in_default
returns-in_default c = rw c.in_default.is (key_changed c.args.keys.now c.remove.new.self c.args.key.now c.args.key.now None refl c.remove.ensures.updates.0)

pub returns-in-Some-get_mut : goal.returns-in-Some-get_mut
returns-in-Some-get_mut c = rw c.in-Some.is (key_there c.args.keys.now (c.get_mut.follows.lender c.in-Some.before) c.args.key.now c.in-Some-get_mut.at.now c.in-Some.before c.requires (c.get_mut.follows.holds c.in-Some.before))
