use Rattle.std.proofs.Common.{◌≡◌, ℕ, ◌⊎◌, [], length, vec_len}
use Rattle.std.specs.Prelude.{slice_index}
use Rattle.disk_model.specs.Moment.{InRanges}
use Rattle.disk_model.specs.Log.{ranges_of}
use Rattle.disk_model.proofs.Past.{Unwound}
use Rattle.disk_model.proofs.crash.all_ones.Given as goal

abbrev pub decreases-loop-write : goal.decreases-loop-write
decreases-loop-write l = vec_len l.log

abbrev pub invariant-loop-write : goal.invariant-loop-write
invariant-loop-write l = record {
  unwound : Unwound l.fn.log.items l.fn.bytes.items l.log.items;
  long : length l.bytes.items ≡ length l.fn.bytes.items;
  subset : (k : ℕ) → InRanges (ranges_of [] l.log.items) k → InRanges (ranges_of [] l.fn.log.items) k;
  written : (k : ℕ) → InRanges (ranges_of [] l.fn.log.items) k → (slice_index l.bytes.items k ≡ 255) ⊎ InRanges (ranges_of [] l.log.items) k;
  same : (k : ℕ) → (InRanges (ranges_of [] l.fn.log.items) k → ⊥) → slice_index l.bytes.items k ≡ slice_index l.fn.bytes.items k;
}
