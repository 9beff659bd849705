-- What may be absent: 0, or 1 and the value.
-- Here is what contracts and proofs say of it besides.
use Rattle.std.specs.Prelude.{ℕ, List, [], ◌∷◌, Option, Some, None}

abbrev pub spell_option : {X : Type 0} → (X → List ℕ) → Option X → List ℕ
spell_option spell None = 0 ∷ []
spell_option spell (Some x) = 1 ∷ spell x

abbrev pub FitsOption : {X : Type 0} → (X → Type 0) → Option X → Type 0
FitsOption fits None = Unit {0}
FitsOption fits (Some x) = fits x
