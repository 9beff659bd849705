-- Parts of which a value of the form is made.
use Rattle.std.proofs.Common.{ℕ, zero, suc, ℤ, pos, negsuc, List, [], ◌∷◌, ◌++◌, map}
use Rattle.serde_json.specs.Data.{Data}
use Rattle.serde_json.specs.Find.{of_integer}
use Rattle.serde_json.specs.View.{items_of}
use Rattle.json_form.specs.Forms.{IsWhole, IsForm, AreItems}

-- so many levels above what nests so deep
abbrev pub levels : ℕ → ℕ → ℕ
levels zero deep = deep
levels (suc n) deep = suc (levels n deep)

-- a whole number with a sign
pub integer_form : (z : ℤ) → IsWhole (of_integer z)
integer_form (pos n) = tt
integer_form (negsuc n) = tt

-- what each item is written as
pub items_form : {A : Type 0} (deep : ℕ) (writes : A → Data) → ((x : A) → IsForm deep (writes x)) → (xs : List A) → AreItems deep (items_of (map writes xs))
items_form deep writes each [] = tt
items_form deep writes each (x ∷ xs) = (each x, items_form deep writes each xs)

-- items, and others behind them
pub items_joined : (deep : ℕ) (ds es : List Data) → AreItems deep (items_of ds) → AreItems deep (items_of es) → AreItems deep (items_of (ds ++ es))
items_joined deep [] es first second = second
items_joined deep (d ∷ ds) es first second = (first.0, items_joined deep ds es first.1 second)
