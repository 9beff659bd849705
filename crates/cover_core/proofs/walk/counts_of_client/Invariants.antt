use Rattle.std.proofs.Common.{◌≡◌, take}
use Rattle.transcript_core.specs.Following.{IsNext}
use Rattle.cover_core.specs.Walks.{client_cover}
use Rattle.cover_core.proofs.walk.counts_of_client.Given as goal

abbrev pub invariant-loop-report : goal.invariant-loop-report
invariant-loop-report l = record {
  next : IsNext l.script (take l.report-index l.reports) l.next;
  so_far : l.counts.items ≡ client_cover l.of l.script (take l.report-index l.reports);
}
