-- Names that stand in a list.
use Rattle.std.specs.Prelude.{ℕ, Bool, true, ◌&&◌, not, List, [], ◌∷◌}
use Rattle.std.specs.Str.{bytes_eq}
use Rattle.std.specs.List.{list_any}

-- it is one of these names
abbrev pub is_name_of : List (List ℕ) → List ℕ → Bool
is_name_of names name = list_any (λ one. bytes_eq one name) names

-- no name stands twice
abbrev pub names_differ : List (List ℕ) → Bool
names_differ [] = true
names_differ (name ∷ names) = not (is_name_of names name) && names_differ names
