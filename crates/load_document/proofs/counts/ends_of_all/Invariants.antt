use Rattle.std.proofs.Common.{◌≡◌, drop}
use Rattle.load_document.specs.meaning.Lines.{requests_in}
use Rattle.load_document.specs.Ends.{ends_in, plus}
use Rattle.load_document.proofs.counts.ends_of_all.Given as goal

abbrev pub invariant-loop-reports : goal.invariant-loop-reports
invariant-loop-reports l = plus l.ends (ends_in (requests_in (drop l.reports-index l.clients))) ≡ ends_in (requests_in l.clients)
