use Rattle.legal_walk.proofs.Counting.{counted_one}
use Rattle.legal_walk.proofs.counts.count_one.Goals as goal

pub returns-clause-ok : goal.returns-clause-ok
returns-clause-ok c = counted_one c.args.counts.now c.put.new.self c.args.ltxid.now c.count_at-count.result c.count_at-count.ensures c.in_ok-put.ensures.ok
