-- What a disk holds at a moment, and what a crash then may leave.
use Rattle.std.specs.Prelude.{◌≡◌, ℕ, ◌+◌, ◌<◌, ◌≤◌, ◌⊎◌, List, [], ◌∷◌, ◌++◌, length, slice_index, take, drop, max}

-- What a disk holds at a moment. A byte is a number here, and need not be below 256.
pub record DiskMoment : Type 0 where
  -- what a read gives
  pub seen : List ℕ
  -- what a read gave at the last sync that succeeded
  pub synced : List ℕ
  -- the ranges written since, each by its offset and its length, the newest first
  pub written : List (ℕ × ℕ)

-- the offset lies in one of the ranges
abbrev pub InRanges : List (ℕ × ℕ) → ℕ → Type 0
InRanges [] offset = ⊥
InRanges (range ∷ ranges) offset = ((range.0 ≤ offset) × (offset < range.0 + range.1)) ⊎ InRanges
    ranges offset

-- A crash leaves an image whose size lies between that at the last sync and that now.
-- Its bytes are those at that sync outside the ranges written since. In these, and past the old
-- end, it has any bytes.
pub record MayLeave (m : DiskMoment) (image : List ℕ) : Type 0 where
  pub no_shorter : length m.synced ≤ length image
  pub no_longer : length image ≤ length m.seen
  pub same : (k : ℕ) → k < length m.synced → (InRanges m.written k → ⊥)
      → slice_index image k ≡ slice_index m.synced k

-- a crash at one of these moments may leave the image
abbrev pub AnyMayLeave : List DiskMoment → List ℕ → Type 0
AnyMayLeave [] image = ⊥
AnyMayLeave (m ∷ later) image = MayLeave m image ⊎ AnyMayLeave later image

-- the old bytes with these over them, from this offset on
abbrev pub with_bytes : ℕ → List ℕ → List ℕ → List ℕ
with_bytes at bytes old = take at old ++ bytes ++ drop (at + length bytes) old

-- the moment after a write of n bytes at this offset, after which a read gives `seen`
abbrev pub next_moment : ℕ → ℕ → List ℕ → DiskMoment → DiskMoment
next_moment at n seen m = record { seen = seen; synced = m.synced; written = (at, n) ∷ m.written }

-- A write of n bytes at this offset that was done in part, or lost in part, left `new` of `old`:
-- any bytes in the range and past the old end, and the same elsewhere.
pub record Torn (at n : ℕ) (old new : List ℕ) : Type 0 where
  pub no_shorter : length old ≤ length new
  pub no_longer : length new ≤ max (length old) (at + n)
  pub same : (k : ℕ) → k < length old → ((at ≤ k) × (k < at + n) → ⊥)
      → slice_index new k ≡ slice_index old k
