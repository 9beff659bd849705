-- The limits of tries, replays and waiting, over a clock of ticks.
-- Here is what contracts and proofs say of it besides.
use Rattle.std.specs.Prelude.{ℕ, ◌≤◌, Option, Some, None}

-- a tick that is not above now
abbrev pub IsPast : Option ℕ → ℕ → Type 0
IsPast None now = Unit {0}
IsPast (Some tick) now = tick ≤ now
