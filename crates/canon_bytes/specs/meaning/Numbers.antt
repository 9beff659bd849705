-- Numbers and flags: the spelling of each, what has one, and its reading.
use Rattle.std.specs.Prelude.{ℕ, ℤ, zero, suc, Bool, true, false, List, [], ◌∷◌, length, take, drop, Result, Ok, Err, nat_lt, if◌then◌else◌}
use Rattle.std.specs.Int.{Width, w64, byte_len, to_be_bytes, from_be_bytes, cast_unsigned, cast_signed}
use Rattle.canon_bytes.specs.meaning.Reading.{◌>>=◌}
use Rattle.canon_bytes.specs.declared.fault.Fault.{Fault}
use Rattle.canon_bytes.specs.declared.fault.Fault.TheVariants.{Short, BadTag}

-- eight bytes, most significant first
unfoldable pub spell_u64 : ℕ → List ℕ
spell_u64 n = to_be_bytes w64 n

-- a number of this width, most significant byte first
abbrev pub wide_at : Width → List ℕ → Result (ℕ × List ℕ) Fault
wide_at w bytes = if nat_lt (length bytes) (byte_len w) then Err Short else
    Ok (from_be_bytes w (take (byte_len w) bytes), drop (byte_len w) bytes)

unfoldable pub u64_at : List ℕ → Result (ℕ × List ℕ) Fault
u64_at bytes = wide_at w64 bytes

-- eight bytes in two's complement, most significant first
unfoldable pub spell_i64 : ℤ → List ℕ
spell_i64 z = to_be_bytes w64 (cast_unsigned w64 z)

unfoldable pub i64_at : List ℕ → Result (ℤ × List ℕ) Fault
i64_at bytes = do
  n ← u64_at bytes
  Ok (cast_signed w64 n.0, n.1)

-- one byte, 0 or 1
abbrev pub spell_bool : Bool → List ℕ
spell_bool false = 0 ∷ []
spell_bool true = 1 ∷ []

unfoldable pub bool_at : List ℕ → Result (Bool × List ℕ) Fault
bool_at [] = Err Short
bool_at (zero ∷ rest) = Ok (false, rest)
bool_at (suc zero ∷ rest) = Ok (true, rest)
bool_at (suc (suc b) ∷ rest) = Err (BadTag (suc (length rest)))
