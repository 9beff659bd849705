use Rattle.std.proofs.Common.{[], arith}
use Rattle.svc_values.specs.meaning.Identifiers.{session_of}
use Rattle.legal_walk.proofs.Counting.{number_of-taken, counted_more}
use Rattle.legal_walk.proofs.counts.counts_of.Goals as goal

pub count_one-requires : goal.count_one-requires
count_one-requires c =
    let session = session_of c.entry-item.result.ltxid in
    omega (arith, c.loop-entry.invariant session, number_of-taken [] c.args.entries.now c.loop-entry.entry-index session)

pub loop-entry-preserved : goal.loop-entry-preserved
loop-entry-preserved c =
    counted_more [] c.args.entries.now c.loop-entry.entry-index c.loop-entry.counts c.count_one.new.counts c.entry-item.result c.loop-entry-test.true c.entry-item.is c.loop-entry.invariant c.in_ok-count_one.ensures.ok
