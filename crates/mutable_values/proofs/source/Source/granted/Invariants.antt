use Rattle.std.proofs.Common.{◌≡◌, filter, take}
use Rattle.mutable_values.specs.meaning.Granting.{is_granted}
use Rattle.mutable_values.proofs.source.Source.granted.Given as goal

abbrev pub invariant-loop-draw : goal.invariant-loop-draw
invariant-loop-draw l = record {
  so_far : l.granted.items ≡ filter (is_granted l.grants l.self.sequences) (take l.draw-index l.draw-items);
  items : l.draw-items ≡ l.draws;
}
