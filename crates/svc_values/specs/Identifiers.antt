-- Which logical transaction identifiers there are, and whose they are.
-- Here is what contracts and proofs say of it besides.
use Rattle.std.specs.Prelude.{◌^◌, ◌≤◌, Bool, ◌&&◌, nat_le}
use Rattle.svc_values.specs.declared.entry.Ltxid.{Ltxid}

-- each part is at most 2^63
abbrev pub IsLtxid : Ltxid → Type 0
IsLtxid x = (x.incarnation ≤ 2 ^ 63) × (x.session ≤ 2 ^ 63) × (x.number ≤ 2 ^ 63)

-- the same as a test
abbrev pub is_ltxid : Ltxid → Bool
is_ltxid x = nat_le x.incarnation (2 ^ 63)
    && (nat_le x.session (2 ^ 63) && nat_le x.number (2 ^ 63))
