use Rattle.std.proofs.Common.{◌∙◌, sym, arith}
use Rattle.whole_check.proofs.Fronting.{front_next, rest_next}
use Rattle.whole_check.proofs.turn.marked_first.Goals as goal

pub loop-at-preserved : goal.loop-at-preserved
loop-at-preserved c =
    let calls = c.args.calls.now in
    let at = c.loop-at.at in
    let one = c.index-calls-at.result in
    record {
      within = omega arith;
      front = c.loop-at.invariant.front ∙ sym (front_next calls at one c.loop-at-test.true c.index-calls-at.is c.if-not-one.false);
      rest = c.loop-at.invariant.rest ∙ sym (rest_next calls at one c.loop-at-test.true c.index-calls-at.is c.if-not-one.false);
    }
