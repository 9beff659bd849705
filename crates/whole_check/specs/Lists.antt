-- Lists of identifiers, one for each transaction.
use Rattle.std.specs.Prelude.{List, [], ◌∷◌}
use Rattle.svc_values.specs.declared.entry.Ltxid.{Ltxid}

-- the first list, and those behind it
abbrev pub first_list : List (List Ltxid) → List Ltxid
first_list [] = []
first_list (ids ∷ lists) = ids
