-- What may be absent: 0, or 1 and the value.
use Rattle.std.specs.Prelude.{ℕ, zero, suc, List, [], ◌∷◌, length, Option, Some, None, Result, Ok, Err}
use Rattle.canon_bytes.specs.meaning.Reading.{◌>>=◌}
use Rattle.canon_bytes.specs.declared.fault.Fault.{Fault}
use Rattle.canon_bytes.specs.declared.fault.Fault.TheVariants.{Short, BadTag}

unfoldable pub option_at : {X : Type 0} → (List ℕ → Result (X × List ℕ) Fault) → List ℕ
    → Result (Option X × List ℕ) Fault
option_at x_at [] = Err Short
option_at x_at (zero ∷ rest) = Ok (None, rest)
option_at x_at (suc zero ∷ rest) = x_at rest >>= λ x. Ok (Some x.0, x.1)
option_at x_at (suc (suc tag) ∷ rest) = Err (BadTag (suc (length rest)))
