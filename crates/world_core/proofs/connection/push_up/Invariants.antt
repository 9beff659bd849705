use Rattle.std.proofs.Common.{◌≡◌, drop}
use Rattle.std.specs.List.{AllByRecursion}
use Rattle.canon_bytes.specs.meaning.UpBytes.{spell_up}
use Rattle.canon_bytes.specs.UpBytes.{FitsUp, IsMadeUp}
use Rattle.frame_wire.specs.Stream.{with_bytes}
use Rattle.frame_wire.specs.Steps.{stream, AreFrames}
use Rattle.world_core.proofs.connection.push_up.Given as goal

abbrev pub invariant-loop-frame : goal.invariant-loop-frame
invariant-loop-frame l = record {
  bytes : with_bytes l.wire (stream spell_up FitsUp (drop l.frame-index l.frames)) ≡ with_bytes l.initial.wire (stream spell_up FitsUp l.frames);
  fitting : AreFrames spell_up FitsUp (drop l.frame-index l.frames) → AreFrames spell_up FitsUp l.frames;
  made : AllByRecursion IsMadeUp (drop l.frame-index l.frames);
}
