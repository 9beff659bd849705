use Rattle.std.proofs.Common.{◌∙◌, ap, sym}
use Rattle.load_document.specs.Ends.{ends_in, plus}
use Rattle.load_document.specs.meaning.Lines.{requests_in}
use Rattle.load_document.proofs.Counting.{next_client, none_client, none_before}
use Rattle.load_document.proofs.counts.ends_of_all.Goals as goal

pub loop-reports-init : goal.loop-reports-init
loop-reports-init c = none_before (requests_in c.args.clients.now)

pub loop-reports-preserved : goal.loop-reports-preserved
loop-reports-preserved c =
    next_client c.args.clients.now c.loop-reports.reports-index c.reports-item.result c.loop-reports.ends c.in_ok-ends.ends c.loop-reports-test.true c.reports-item.is
    (c.in_ok-ends.ensures ∙ ap (λ own. plus c.loop-reports.ends (ends_in own)) c.as_slice.ensures) ∙ c.loop-reports.invariant

pub returns : goal.returns
returns c = sym (none_client c.args.clients.now c.loop-reports.reports-index c.loop-reports.ends c.loop-reports-test.false) ∙ c.loop-reports.invariant
