-- Numbers and flags: the spelling of each, what has one, and its reading.
-- Here is what contracts and proofs say of it besides.
use Rattle.std.specs.Prelude.{ℕ, ℤ, ◌<◌, ◌^◌, Bool, FitsSigned}
use Rattle.std.specs.Int.{w64}

abbrev pub FitsU64 : ℕ → Type 0
FitsU64 n = n < 2 ^ 64

abbrev pub FitsI64 : ℤ → Type 0
FitsI64 z = FitsSigned w64 z

abbrev pub FitsBool : Bool → Type 0
FitsBool b = Unit {0}
