use Rattle.std.proofs.Common.{◌≡◌, drop, fold}
use Rattle.report_parts.specs.Submitting.{with_report, submitted}
use Rattle.report_parts.proofs.submitting.put_all.Given as goal

abbrev pub invariant-loop-report : goal.invariant-loop-report
invariant-loop-report l = fold with_report l.put (drop l.report-index l.reports) ≡ submitted l.script l.reports
