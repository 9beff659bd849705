use Rattle.std.proofs.Common.{◌≡◌, ◌++◌, IsTrue, drop}
use Rattle.std.specs.List.{list_all}
use Rattle.cover_core.specs.Made.{has_made_requests}
use Rattle.cover_core.specs.Walks.{clients_cover}
use Rattle.cover_core.proofs.walk.counts_of_run.Given as goal

abbrev pub invariant-loop-place : goal.invariant-loop-place
invariant-loop-place l = record {
  so_far : l.all.items ++ clients_cover l.of (drop l.place l.clients) (drop l.place l.transcripts) ≡ clients_cover l.of l.clients l.transcripts;
  made : IsTrue (list_all has_made_requests (drop l.place l.clients));
}
