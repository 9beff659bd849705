-- JSON values of texts, numbers, lists and objects.
use Rattle.std.specs.Prelude.{ℕ, ℤ, List, [], ◌∷◌, map, Bool}
use Rattle.serde_json.specs.Data.{Data, null as json_null, boolean, number, unsigned, string, array, object, Members, no_members, put as with_member}
use Rattle.serde_json.specs.Find.{of_integer}
use Rattle.serde_json.specs.View.{items_of}

-- a text of these bytes
abbrev pub text : List ℕ → Data
text bytes = string bytes

-- a whole number
abbrev pub whole : ℕ → Data
whole n = number (unsigned n)

-- a whole number with a sign
abbrev pub integer : ℤ → Data
integer z = number (of_integer z)

-- null
abbrev pub null : Data
null = json_null

-- a bool
abbrev pub flag : Bool → Data
flag b = boolean b

-- the array of these values
abbrev pub list : List Data → Data
list ds = array (items_of ds)

-- the array of what each item is written as
abbrev pub list_by : {A : Type 0} → (A → Data) → List A → Data
list_by writes xs = list (map writes xs)

-- members put one after the other, each at its place in the order of bytes; of equal names the last
-- stands
abbrev pub with_all : Members → List (List ℕ × Data) → Members
with_all ms [] = ms
with_all ms (pair ∷ pairs) = with_all (with_member pair.0 pair.1 ms) pairs

-- the object of these members
abbrev pub members : List (List ℕ × Data) → Data
members pairs = object (with_all no_members pairs)
