-- What each call of a service does to what is seen of it.
use Rattle.std.specs.Prelude.{◌%◌, ℕ, Bool, nat_lt}

-- ---- crash and up

abbrev pub is_failover : ℕ → Bool
is_failover pick = nat_lt 3 (pick % 8)
