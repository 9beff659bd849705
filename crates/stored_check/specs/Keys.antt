-- What stands beside identifiers.
use Rattle.std.specs.Prelude.{ℕ, Bool, List, [], ◌∷◌, Option, Some, None, if◌then◌else◌}
use Rattle.svc_values.specs.Keys.{value_of}
use Rattle.svc_values.specs.declared.entry.Ltxid.{Ltxid}
use Rattle.svc_values.specs.declared.entry.Entry.{Entry}
use Rattle.svc_values.specs.meaning.Identifiers.{same_ltxid}
use Rattle.identifier_sets.specs.Keys.{key_of, same_key}

-- the mark that stands beside an identifier, if one does
abbrev pub mark_of : List ((ℕ × ℕ × ℕ) × Bool) → Ltxid → Option Bool
mark_of marks x = value_of same_key marks (key_of x)

-- what there is, as a list
abbrev pub as_list : {A : Type 0} → Option A → List A
as_list None = []
as_list (Some a) = a ∷ []

-- the first of the two that is there
abbrev pub or_else : {A : Type 0} → Option A → Option A → Option A
or_else None other = other
or_else (Some a) other = Some a

-- the mark of an identifier, and else that of this entry where it has the identifier
abbrev pub first_of : Option Bool → Entry → Ltxid → Option Bool
first_of mark entry x = or_else mark (if same_ltxid entry.ltxid x then Some entry.completed else
    None)
