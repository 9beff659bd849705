use Rattle.std.proofs.Common.{◌∙◌, sym}
use Rattle.load_document.proofs.Counting.{next_counted, none_counted}
use Rattle.load_document.proofs.counts.with_client.Goals as goal

pub loop-report-preserved : goal.loop-report-preserved
loop-report-preserved c =
    next_counted c.args.reports.now c.loop-report.report-index c.report-item.result c.loop-report.ends c.in_ok-ends.ends c.loop-report-test.true c.report-item.is
    c.in_ok-ends.ensures ∙ c.loop-report.invariant

pub returns : goal.returns
returns c = sym (none_counted c.args.reports.now c.loop-report.report-index c.loop-report.ends c.loop-report-test.false) ∙ c.loop-report.invariant
