-- Items whose parts are read one after the other.
use Rattle.std.specs.Prelude.{◌≡◌, ℕ, List, Some, Result, Ok}
use Rattle.json.specs.Token.{Token}
use Rattle.serde_json.specs.Data.{Data, array, Items, item}
use Rattle.json_form.specs.meaning.Faults.{Fault}
use Rattle.json_form.specs.Streams.{items_ahead}
use Rattle.call_forms.specs.declared.item.Item.{Item}

-- the tokens begin with what is left of an item's array behind its word: the whole is read as this,
-- and the others stand behind it
abbrev pub Ends : (Data → Result Item Fault) → ℕ → List Token → Item → List Token → Type 0
Ends read depth ts one rest = (ds : Items) × (items_ahead depth ts ≡ Some (ds, rest))
    × ((word : Data) → read (array (item word ds)) ≡ Ok one)
