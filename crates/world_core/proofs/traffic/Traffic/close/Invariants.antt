use Rattle.std.proofs.Common.{◌≡◌, List, drop}
use Rattle.world_model.specs.meaning.Links.{Link}
use Rattle.world_model.specs.meaning.Machines.{Machine}
use Rattle.world_core.specs.Underway.{AreClosable, all_closed, IsUnderway}
use Rattle.world_core.proofs.traffic.Traffic.close.Given as goal

abbrev pub invariant-loop-number : goal.invariant-loop-number
invariant-loop-number l = record {
  pool : l.self.pool ≡ l.initial.self.pool;
  closable : AreClosable l.self.connections.all.items (drop l.number-index l.numbers);
  underway : (m : Machine) → IsUnderway l.initial.self m → (links : List Link) × (IsUnderway l.self (record m { links = links }) × (all_closed m.event links (drop l.number-index l.numbers) ≡ all_closed m.event m.links l.numbers));
}
