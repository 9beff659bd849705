-- Values, their kinds, and rows.
-- Here is what contracts and proofs say of it besides.
use Rattle.std.specs.Prelude.{ℕ, List, [], ◌∷◌}
use Rattle.svc_values.specs.declared.value.Kind.{Kind}
use Rattle.svc_values.specs.declared.value.Kind.TheVariants as kind
use Rattle.svc_values.specs.declared.value.Value.{Value}
use Rattle.svc_values.specs.declared.value.Value.TheVariants.{Int, Text, Bytes}
use Rattle.canon_bytes.specs.Numbers.{FitsI64}
use Rattle.canon_bytes.specs.TextBytes.{FitsText, FitsOctets}
use Rattle.canon_bytes.specs.Lists.{FitsList}

abbrev pub spell_kind : Kind → List ℕ
spell_kind kind.Int = 1 ∷ []
spell_kind kind.Text = 2 ∷ []
spell_kind kind.Bytes = 3 ∷ []

abbrev pub FitsKind : Kind → Type 0
FitsKind _ = Unit {0}

abbrev pub FitsValue : Value → Type 0
FitsValue (Int n) = FitsI64 n
FitsValue (Text text) = FitsText text
FitsValue (Bytes bytes) = FitsOctets bytes

abbrev pub FitsRow : List Value → Type 0
FitsRow row = FitsList FitsValue 8 row
