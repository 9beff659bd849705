-- Keys, and values that stand beside keys.
use Rattle.std.specs.Prelude.{Bool, List, Option}
use Rattle.std.specs.List.{list_any}
use Rattle.std.specs.Map.{lookup}

-- it is the same as one of the keys
abbrev pub is_key : {K : Type 0} → (K → K → Bool) → List K → K → Bool
is_key same keys k = list_any (same k) keys

-- the value beside the first key that is the same, if there is one
abbrev pub value_of : {K V : Type 0} → (K → K → Bool) → List (K × V) → K → Option V
value_of same pairs k = lookup (same k) pairs
