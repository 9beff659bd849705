-- Lists: the number of items, and the items.
use Rattle.std.specs.Prelude.{ℕ, zero, suc, List, [], ◌∷◌, ◌++◌, length, Result, Ok, Err, nat_lt, if◌then◌else◌}
use Rattle.std.specs.List.{flat_map}
use Rattle.canon_bytes.specs.meaning.Numbers.{spell_u64, u64_at}
use Rattle.canon_bytes.specs.meaning.Reading.{◌>>=◌}
use Rattle.canon_bytes.specs.declared.fault.Fault.{Fault}
use Rattle.canon_bytes.specs.declared.fault.Fault.TheVariants.{BadPart}

unfoldable pub spell_list : {X : Type 0} → (X → List ℕ) → List X → List ℕ
spell_list spell items = spell_u64 (length items) ++ flat_map spell items

-- that many items
unfoldable pub items_at : {X : Type 0} → (List ℕ → Result (X × List ℕ) Fault) → ℕ → List ℕ
    → Result (List X × List ℕ) Fault
items_at item_at zero bytes = Ok ([], bytes)
items_at item_at (suc n) bytes = do
  first ← item_at bytes
  others ← items_at item_at n first.1
  Ok (first.0 ∷ others.0, others.1)

-- the number of items, at most limit, and the items; the limit is judged before any item
unfoldable pub list_at : {X : Type 0} → (List ℕ → Result (X × List ℕ) Fault) → ℕ → List ℕ
    → Result (List X × List ℕ) Fault
list_at item_at limit bytes = do
  n ← u64_at bytes
  if nat_lt limit n.0 then Err (BadPart (length bytes)) else items_at item_at n.0 n.1

unfoldable pub listed_at : {X : Type 0} → (List ℕ → Result (X × List ℕ) Fault) → List ℕ
    → Result (List X × List ℕ) Fault
listed_at item_at bytes = do
  n ← u64_at bytes
  items_at item_at n.0 n.1
