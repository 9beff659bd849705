-- Members of an object that are read one after the other.
use Rattle.std.specs.Prelude.{◌≡◌, ◌<◌, ℕ, List, length, Some, Result}
use Rattle.json.specs.Token.{Token}
use Rattle.json.specs.Json.{read_key}
use Rattle.serde_json.specs.Data.{Data}
use Rattle.json_form.specs.meaning.Faults.{Fault}
use Rattle.json_form.specs.Streams.{Begins}

-- the tokens begin with a member of this name, whose value is read as this, and the others stand
-- behind it
abbrev pub IsNext : {A : Type 0} → (Data → Result A Fault) → List ℕ → ℕ → List Token → A
    → List Token → Type 0
IsNext read name depth ts x rest =
    (begin : List Token) × (read_key ts ≡ Some (Some name, begin)) × Begins read depth begin x rest
    × (length rest < length begin)
