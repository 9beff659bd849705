-- Whole numbers of 64 bits, which a text names and a reader takes back.
use Rattle.std.specs.Prelude.{◌≡◌, ◌^◌, ◌<◌, pos, negsuc, List}
use Rattle.std.specs.List.{AllByRecursion}
use Rattle.json.specs.Token.{Token}
use Rattle.serde_json.specs.Data.{Num, unsigned, negative, float}
use Rattle.serde_json.specs.Written.{number_text}

-- a whole number of 64 bits, with a sign only below zero
abbrev pub IsOf64Bits : Num → Type 0
IsOf64Bits (unsigned n) = n < 2 ^ 64
IsOf64Bits (negative (pos n)) = ⊥
IsOf64Bits (negative (negsuc n)) = n < 2 ^ 63
IsOf64Bits (float x) = ⊥

-- the token is no number, or that of such a number
abbrev pub IsShort : Token → Type 0
IsShort (Token.number s) = (n : Num) × IsOf64Bits n × (s ≡ number_text n)
IsShort _ = Unit {0}

-- each number among the tokens is of 64 bits
abbrev pub AreShort : List Token → Type 0
AreShort ts = AllByRecursion IsShort ts
