-- Limits of numbers in a document.
use Rattle.std.specs.Prelude.{ℕ, Bool, ◌&&◌, nat_le}
use Rattle.svc_values.specs.declared.entry.Ltxid.{Ltxid}

-- at most 2^62
abbrev pub is_count : ℕ → Bool
is_count n = nat_le n 4611686018427387904

-- an identifier whose parts are at most 2^62
abbrev pub is_small_ltxid : Ltxid → Bool
is_small_ltxid x = is_count x.incarnation && (is_count x.session && is_count x.number)
