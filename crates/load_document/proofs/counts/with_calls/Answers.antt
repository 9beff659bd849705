use Rattle.std.proofs.Common.{◌∙◌, ap, sym}
use Rattle.load_document.specs.Ends.{plus}
use Rattle.load_document.proofs.Counting.{next_call, none_call}
use Rattle.load_document.proofs.counts.with_calls.Goals as goal

pub loop-call-preserved : goal.loop-call-preserved
loop-call-preserved c =
    next_call c.args.calls.now c.loop-call.call-index c.call-item.result c.loop-call.ends c.in_ok-ends.ends c.loop-call-test.true c.call-item.is
    (c.in_ok-ends.ensures ∙ ap (λ own. plus c.loop-call.ends own) c.ends_of.ensures) ∙ c.loop-call.invariant

pub returns : goal.returns
returns c = sym (none_call c.args.calls.now c.loop-call.call-index c.loop-call.ends c.loop-call-test.false) ∙ c.loop-call.invariant
