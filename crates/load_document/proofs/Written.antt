-- The tokens of parts that are written one after the other.
use Rattle.std.proofs.Common.{◌≡◌, List, ◌++◌, Result, Ok, Err, OnOk, ap, ◌∙◌, append_assoc}
use Rattle.std.specs.Prelude.{⊤}
use Rattle.json.specs.Token.{Token}

pub on_ok : {E : Type 0} (result : Result ⊤ E) {P Q : Type 0} → (P → Q) → OnOk result P
    → OnOk result Q
on_ok (Ok x) f p = f p
on_ok (Err e) f p = tt

-- what follows a part follows what the part was put behind
pub ahead : {now : List Token} (old ts rest : List Token) → now ≡ old ++ ts
    → now ++ rest ≡ old ++ (ts ++ rest)
ahead old ts rest put = ap (λ (done : List Token). done ++ rest) put ∙ append_assoc old ts rest
