-- The ways in which a sequence may go on, by the number of blocks that stand.
use Rattle.std.specs.Prelude.{◌≡◌, ℕ, ◌*◌, ◌≤◌, ℤ, pos, ◌+ℤ◌, Option, Some, None}
use Rattle.server_model.specs.meaning.NewValues.{Count}

-- with so many of the blocks that may stand
abbrev pub way_at : ℕ → Count → Count
way_at blocks count = record count {
  next = count.next +ℤ pos (16 * blocks);
  upto =
      count.upto +ℤ pos (16 * blocks);
  maybe = 0;
}

-- the value is the next one with so many of them
abbrev pub IsBefore : Count → ℤ → ℕ → Type 0
IsBefore count value blocks = (blocks ≤ count.maybe) × (value ≡ (count.next +ℤ pos (16 * blocks)))

-- with this number of them, or with none
abbrev pub HasBefore : Count → ℤ → Option ℕ → Type 0
HasBefore count value None = (blocks : ℕ) → ¬ IsBefore count value blocks
HasBefore count value (Some blocks) = IsBefore count value blocks
