-- Arrays: their count, and then their items in order.
use Rattle.std.specs.Prelude.{ℕ, ◌==◌, ◌&&◌, List, [], ◌∷◌, ◌++◌, length, map, Bool, nat_le, if◌then◌else◌, Option, Result, Ok, Err, ⊤}
use Rattle.std.specs.List.{list_any}
use Rattle.serde_json.specs.Data.{Data, Items, no_items, item}
use Rattle.serde_json.specs.Events.{items_len}
use Rattle.serde_json.specs.Find.{get_item}
use Rattle.json_form.specs.declared.fault.DocCode.TheVariants.{WrongKind, Limit, Duplicate}
use Rattle.json_form.specs.meaning.Faults.{Fault, ◌>>=◌, here, within_item}
use Rattle.json_form.specs.meaning.Values.{expected, items_of}

-- the items read before, and then the others in order, each in the light of those before it
abbrev pub each_after : {A : Type 0} → (List A → Data → Result A Fault) → List A → Items
    → Result (List A) Fault
each_after read before no_items = Ok before
each_after read before (item d ds) = within_item (length before) (read before d) >>= λ x.
    each_after read (before ++ x ∷ []) ds

-- the items in order, each by itself
abbrev pub each_of : {A : Type 0} → (Data → Result A Fault) → Items → Result (List A) Fault
each_of read ds = each_after (λ before. read) [] ds

-- one of the keys
abbrev pub is_key : {K : Type 0} → (K → K → Bool) → List K → K → Bool
is_key same keys k = list_any (same k) keys

-- the items in order, each with the test for a key of the items before it
abbrev pub distinct : {A K : Type 0} → (K → K → Bool) → (A → K)
    → ((K → Bool) → Data → Result A Fault) → Items → Result (List A) Fault
distinct same key read ds = each_after (λ before. read (is_key same (map key before))) [] ds

-- a key that no item before has
abbrev pub fresh : {K : Type 0} → (K → Bool) → K → Result ⊤ Fault
fresh taken key = if taken key then Err (here Duplicate) else Ok tt

-- the items, if there are low to high of them
abbrev pub in_count : ℕ → ℕ → Items → Result Items Fault
in_count low high ds = if nat_le low (items_len ds) && nat_le (items_len ds) high then Ok ds else
    Err (here Limit)

-- the items of an array that has low to high of them
abbrev pub counted_of : ℕ → ℕ → Data → Result Items Fault
counted_of low high d = items_of d >>= in_count low high

-- an array of low to high items
abbrev pub array_of : {A : Type 0} → ℕ → ℕ → (Items → Result (List A) Fault) → Data
    → Result (List A) Fault
array_of low high read d = counted_of low high d >>= read

-- an array of any number of items
abbrev pub list_of : {A : Type 0} → (Items → Result (List A) Fault) → Data → Result (List A) Fault
list_of read d = items_of d >>= read

-- the items, if there are exactly n of them
abbrev pub exactly : ℕ → Items → Result Items Fault
exactly n ds = if items_len ds == n then Ok ds else Err (here WrongKind)

-- the items of an array that has exactly n of them
abbrev pub exact_of : ℕ → Data → Result Items Fault
exact_of n d = items_of d >>= exactly n

-- what stands at each position
abbrev pub Placed : Type 0
Placed = ℕ → Option Data

abbrev pub placed : Items → Placed
placed ds i = get_item i ds

-- an array of exactly n items, by their positions
abbrev pub fixed : ℕ → Data → Result Placed Fault
fixed n d = exact_of n d >>= λ ds. Ok (placed ds)

-- the item at a position, read; a fault is placed there
unfoldable pub part : {A : Type 0} → ℕ → (Data → Result A Fault) → Placed → Result A Fault
part at read ds = expected (ds at) >>= λ d. within_item at (read d)
