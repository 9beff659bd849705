use Rattle.std.proofs.Common.{◌+◌, ◌≤◌, ap, arith}
use Rattle.report_parts.proofs.Reaching.{on_next, on_stops, on_all, one_most}
use Rattle.report_parts.proofs.parts.reach.Goals as goal

pub returns-then-next-upto : goal.returns-then-next-upto
returns-then-next-upto c =
    on_stops c.args.steps.now c.loop-len.len c.index-steps-len.result c.args.before c.loop-len.acquired c.args.upto (c.loop-len.acquired + c.acquired_by.result)
    c.loop-len-test.true c.index-steps-len.is (ap (λ n. c.loop-len.acquired + n) c.acquired_by.ensures) (omega arith) c.loop-len.invariant.on

pub loop-len-preserved : goal.loop-len-preserved
loop-len-preserved c =
    let one : c.acquired_by.result ≤ 1 = one_most c.index-steps-len.result c.acquired_by.result c.acquired_by.ensures in
    let most = c.loop-len.invariant.most in
    record {
      on = on_next c.args.steps.now c.loop-len.len c.index-steps-len.result c.args.before c.loop-len.acquired c.args.upto (c.loop-len.acquired + c.acquired_by.result)
          c.loop-len-test.true c.index-steps-len.is (ap (λ n. c.loop-len.acquired + n) c.acquired_by.ensures) (omega arith) c.loop-len.invariant.on;
      most = omega (arith, one, most);
      within = omega arith;
    }

pub returns : goal.returns
returns c = on_all c.args.steps.now c.loop-len.len c.args.before c.loop-len.acquired c.args.upto (omega arith) c.loop-len.invariant.within c.loop-len.invariant.on
