use Rattle.std.proofs.Common.{arith}
use Rattle.entry_check.proofs.Placing.{placed_more, all_placed}
use Rattle.entry_check.proofs.stored.Stored.new.Goals as goal

pub loop-at-preserved : goal.loop-at-preserved
loop-at-preserved c =
    placed_more c.args.entries.now c.requires c.loop-at.at c.index-entries-at.result c.loop-at-test.true c.index-entries-at.is c.loop-at.places c.put.new.self
    c.key_of.result c.key_of.ensures c.in_ok-put.ensures.ok c.loop-at.invariant

pub invariant_of-result : goal.invariant_of-result
invariant_of-result c = all_placed c.args.entries.now c.loop-at.places c.loop-at.at (omega arith) c.loop-at.invariant
