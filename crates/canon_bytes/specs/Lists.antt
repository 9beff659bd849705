-- Lists: the number of items, and the items.
-- Here is what contracts and proofs say of it besides.
use Rattle.std.specs.Prelude.{ℕ, ◌<◌, ◌≤◌, ◌^◌, List, length}
use Rattle.std.specs.List.{AllByRecursion}

-- a list without a limit: its number of items has eight bytes, and each item fits
abbrev pub FitsListed : {X : Type 0} → (X → Type 0) → List X → Type 0
FitsListed fits items = (length items < 2 ^ 64) × AllByRecursion fits items

abbrev pub FitsList : {X : Type 0} → (X → Type 0) → ℕ → List X → Type 0
FitsList fits limit items = (length items ≤ limit) × FitsListed fits items
