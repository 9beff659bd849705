-- Values that are read from tokens one after the other.
use Rattle.std.specs.Prelude.{◌≡◌, ℕ, List, length, Option, Some, Result, Ok}
use Rattle.json.specs.Token.{Token}
use Rattle.json.specs.Json.{parse_map, value, items, members}
use Rattle.serde_json.specs.Data.{Data, Items, no_items, item, Members, no_members}
use Rattle.serde_json.specs.Read.{of_json, of_items, of_members, converted}
use Rattle.json_form.specs.meaning.Faults.{Fault}

-- the value that the tokens begin with, nested no deeper than the number, and the tokens behind it
abbrev pub value_ahead : ℕ → List Token → Option (Data × List Token)
value_ahead depth ts = converted of_json (value depth ts)

-- the items up to the bracket that ends their array, and the tokens behind it
abbrev pub items_ahead : ℕ → List Token → Option (Items × List Token)
items_ahead depth ts = converted of_items (items (value depth) (length ts) ts)

-- the members up to the bracket that ends their object, and the tokens behind it
abbrev pub members_ahead : ℕ → List Token → Option (Members × List Token)
members_ahead depth ts = converted (λ ms. of_members ms no_members)
    (members (value depth) (length ts) ts)

-- the tokens begin with a value that is read as this, and the others stand behind it
abbrev pub Begins : {A : Type 0} → (Data → Result A Fault) → ℕ → List Token → A → List Token
    → Type 0
Begins read depth ts x rest = parse_map read (value_ahead depth ts) ≡ Some (Ok x, rest)

-- the tokens begin with the last item of an array, which is read as this, and with the bracket
-- behind it
abbrev pub IsLastItem : {A : Type 0} → (Data → Result A Fault) → ℕ → List Token → A → List Token
    → Type 0
IsLastItem read depth ts x rest = (d : Data) × (items_ahead depth ts ≡ Some (item d no_items, rest))
    × (read d ≡ Ok x)
