use Rattle.std.proofs.Common.{◌≡◌, drop}
use Rattle.load_document.specs.Ends.{ends_in, plus}
use Rattle.load_document.proofs.counts.with_client.Given as goal

abbrev pub invariant-loop-report : goal.invariant-loop-report
invariant-loop-report l = plus l.ends (ends_in (drop l.report-index l.reports)) ≡ plus l.fn.before (ends_in l.reports)
