use Rattle.std.proofs.Common.{◌≡◌, List, length}
use Rattle.world_model.specs.meaning.Links.{Link}
use Rattle.world_model.specs.meaning.Crashing.{fallen_link}
use Rattle.world_core.specs.Linked.{AreLinks, Stand}
use Rattle.world_core.proofs.Standing.{first_changed}
use Rattle.world_core.proofs.connections.Connections.fall.Given as goal

abbrev pub invariant-loop-at : goal.invariant-loop-at
invariant-loop-at l = record {
  long : length l.self.all.items ≡ length l.initial.self.all.items;
  links : (links : List Link) → Stand l.initial.self links → AreLinks l.self.all.items (first_changed (fallen_link l.event) l.at links);
}
