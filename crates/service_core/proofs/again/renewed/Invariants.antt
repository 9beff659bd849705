use Rattle.std.proofs.Common.{◌≡◌, ◌++◌, take, drop, map}
use Rattle.std.specs.Prelude.{All, IsTrue}
use Rattle.server_model.specs.Core.{reopened}
use Rattle.service_core.specs.Resting.{leaves_room}
use Rattle.service_core.proofs.again.renewed.Given as goal

abbrev pub invariant-loop-sequence : goal.invariant-loop-sequence
invariant-loop-sequence l = record {
  so_far : l.sequence-items ≡ map reopened (take l.sequence-index l.fn.core.source.sequences) ++ drop l.sequence-index l.fn.core.source.sequences;
  room : All (λ sequence. IsTrue (leaves_room sequence)) l.sequence-items;
}
