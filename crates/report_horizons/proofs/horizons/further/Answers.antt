use Rattle.report_horizons.proofs.Front.{passes_one, stops_at}
use Rattle.report_horizons.proofs.horizons.further.Goals as goal

pub returns-then-not-is_past-clause-most : goal.returns-then-not-is_past-clause-most
returns-then-not-is_past-clause-most c = stops_at c.args.retention c.args.tick c.loop-passed.passed c.loop-passed.most c.args.ended.now _ c.loop-passed-test.true c.if-not-is_past.ensures c.loop-passed.invariant

pub loop-passed-preserved : goal.loop-passed-preserved
loop-passed-preserved c = passes_one c.args.retention c.args.tick c.loop-passed.passed c.loop-passed.most c.greater-most.result c.args.ended.now _ c.loop-passed-test.true c.if-not-is_past.ensures c.greater-most.ensures c.loop-passed.invariant
