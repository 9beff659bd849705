-- Arrays: their count, and then their items in order.
-- Here is what contracts and proofs say of it besides.
use Rattle.std.specs.Prelude.{ℕ, ◌==◌, ◌&&◌, List, [], ◌∷◌, Bool, true, not, if◌then◌else◌, Some}
use Rattle.std.specs.List.{list_any}
use Rattle.serde_json.specs.Data.{null, Items}
use Rattle.serde_json.specs.Events.{items_len}
use Rattle.serde_json.specs.View.{items_view}
use Rattle.json_form.specs.declared.parts.Parts as held
use Rattle.json_form.specs.meaning.Arrays.{Placed, placed}

-- no key stands twice
abbrev pub have_distinct_keys : {A K : Type 0} → (K → K → Bool) → (A → K) → List A → Bool
have_distinct_keys same key [] = true
have_distinct_keys same key (x ∷ xs) = not (list_any (λ y. same (key y) (key x)) xs)
    && have_distinct_keys same key xs

abbrev pub items_at : held.Parts → Items
items_at held = items_view held.items.items

abbrev pub parts_at : held.Parts → Placed
parts_at held = placed (items_at held)

abbrev pub count_at : held.Parts → ℕ
count_at held = items_len (items_at held)

-- the items once the one at this position was taken out
unfoldable pub taken_at : ℕ → Placed → Placed
taken_at at ds i = if i == at then Some null else ds i
