-- The limits of tries, replays and waiting, over a clock of ticks.
use Rattle.std.specs.Prelude.{ℕ, ◌-◌, Bool, true, nat_le, Option, Some, None}

-- a first try waits for nothing, each other one until `delay` ticks have passed since the failed
-- one
abbrev pub has_waited : Option ℕ → ℕ → ℕ → Bool
has_waited None now delay = true
has_waited (Some last) now delay = nat_le delay (now - last)
