use Rattle.std.proofs.Common.{◌≡◌, ℕ, ◌%◌, ◌<◌, length, vec_len}
use Rattle.std.specs.Prelude.{slice_index}
use Rattle.disk_model.proofs.Past.{Unwound}
use Rattle.disk_model.proofs.crash.half_back.Given as goal

abbrev pub decreases-loop-write : goal.decreases-loop-write
decreases-loop-write l = vec_len l.log

abbrev pub invariant-loop-write : goal.invariant-loop-write
invariant-loop-write l = record {
  unwound : Unwound l.fn.log.items l.fn.bytes.items l.log.items;
  long : length l.bytes.items ≡ length l.fn.bytes.items;
  odd : (k : ℕ) → k % 2 ≡ 1 → k < length l.fn.bytes.items → slice_index l.bytes.items k ≡ slice_index unwound.after k;
  even : (k : ℕ) → k % 2 ≡ 0 → slice_index l.bytes.items k ≡ slice_index l.fn.bytes.items k;
}
