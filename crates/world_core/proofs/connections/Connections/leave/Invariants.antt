use Rattle.std.proofs.Common.{◌≡◌, ◌+◌, List, drop, fold}
use Rattle.pool_core.specs.meaning.Slots.{after_gone}
use Rattle.world_model.specs.meaning.Links.{Link, open_from}
use Rattle.world_core.specs.Linked.{Stand}
use Rattle.world_core.proofs.connections.Connections.leave.Given as goal

abbrev pub invariant-loop-at : goal.invariant-loop-at
invariant-loop-at l = (links : List Link) → Stand l.self links → fold after_gone l.pool (open_from (l.at + 1) (drop l.at links)) ≡ fold after_gone l.initial.pool (open_from 1 links)
