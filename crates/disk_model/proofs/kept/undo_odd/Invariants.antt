use Rattle.std.proofs.Common.{◌≡◌, ℕ, ◌+◌, ◌-◌, ◌%◌, ◌<◌, ◌≤◌, length}
use Rattle.std.specs.Prelude.{slice_index}
use Rattle.disk_model.proofs.kept.undo_odd.Given as goal

abbrev pub invariant-loop-offset : goal.invariant-loop-offset
invariant-loop-offset l = record {
  long : length l.bytes.items ≡ length l.fn.bytes.items;
  inside : (j : ℕ) → l.write.at ≤ j → j < l.offset → j % 2 ≡ 1 → slice_index l.bytes.items j ≡ slice_index l.write.covered.items (j - l.write.at);
  outside : (j : ℕ) → ((l.write.at ≤ j) × (j < l.write.at + l.write.len) × (j % 2 ≡ 1) → ⊥) → slice_index l.bytes.items j ≡ slice_index l.fn.bytes.items j;
}
