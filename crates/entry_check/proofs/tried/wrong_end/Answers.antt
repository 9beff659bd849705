use Rattle.std.proofs.Common.{◌∙◌, sym, arith}
use Rattle.run_clauses.specs.meaning.Tried.{holds}
use Rattle.entry_check.proofs.Ends.{ends_on}
use Rattle.entry_check.proofs.tried.wrong_end.Goals as goal

pub loop-at-preserved : goal.loop-at-preserved
loop-at-preserved c =
    let request = c.args.request.now in
    let step = ends_on (holds c.args.stored.now) request.failed c.as_slice-lists.result.now c.as_slice-calls.result.now c.loop-at.over c.loop-at.at c.in-Some.behind
    c.index-calls-at.result c.loop-at-test.true c.index-calls-at.is (sym c.over_behind.ensures ∙ c.in-Some.is) in
    let most = step.1 in
    let within = c.loop-at.invariant.within in
    record { rest = step.0 ∙ c.loop-at.invariant.rest; within = omega (arith, most, within) }
