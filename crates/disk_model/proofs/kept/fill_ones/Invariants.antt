use Rattle.std.proofs.Common.{◌≡◌, ℕ, ◌+◌, ◌<◌, ◌≤◌, length}
use Rattle.std.specs.Prelude.{slice_index}
use Rattle.disk_model.proofs.kept.fill_ones.Given as goal

abbrev pub invariant-loop-offset : goal.invariant-loop-offset
invariant-loop-offset l = record {
  long : length l.bytes.items ≡ length l.fn.bytes.items;
  inside : (j : ℕ) → l.write.at ≤ j → j < l.offset → slice_index l.bytes.items j ≡ 255;
  outside : (j : ℕ) → ((l.write.at ≤ j) × (j < l.write.at + l.write.len) → ⊥) → slice_index l.bytes.items j ≡ slice_index l.fn.bytes.items j;
}
