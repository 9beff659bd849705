use Rattle.std.proofs.Common.{Some}
use Rattle.table_txn.proofs.LatestLaws.{key_changed, key_was}
use Rattle.table_txn.proofs.latest.put_key.Goals as goal

pub returns-clause-before : goal.returns-clause-before
returns-clause-before c = key_was c.args.keys.now c.args.key.now c.in_ok-copy.field-0 c.in_ok-insert.field-0 c.in_ok-copy.ensures c.in_ok-insert.ensures.old

pub returns-clause-ok : goal.returns-clause-ok
returns-clause-ok c = key_changed c.args.keys.now c.insert.new.self c.args.key.now c.in_ok-copy.field-0 (Some c.args.at) c.in_ok-copy.ensures c.in_ok-insert.ensures.updates.0
