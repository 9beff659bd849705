-- Identifiers without their places, and sessions as keys.
use Rattle.std.specs.Prelude.{ℕ, List, [], ◌∷◌, map, Option, Some, None}
use Rattle.svc_values.specs.declared.entry.Ltxid.{Ltxid}
use Rattle.svc_values.specs.declared.entry.SessionId.{SessionId}
use Rattle.entry_check.specs.declared.gather.IdAt.{IdAt}

-- identifiers without their places
abbrev pub ids_in : List IdAt → List Ltxid
ids_in found = map (λ one. one.ltxid) found

-- the session of two numbers
abbrev pub session_at : ℕ × ℕ → SessionId
session_at key = record { incarnation = key.0; session = key.1 }

-- what there is, as a list
abbrev pub as_list : {A : Type 0} → Option A → List A
as_list None = []
as_list (Some a) = a ∷ []
