-- The places of entries, by their identifiers.
use Rattle.std.specs.Prelude.{ℕ, ◌≡◌, List, [], ◌∷◌, slice_get, option_and_then}
use Rattle.svc_values.specs.Keys.{value_of}
use Rattle.svc_values.specs.declared.entry.Ltxid.{Ltxid}
use Rattle.svc_values.specs.declared.entry.Entry.{Entry}
use Rattle.run_clauses.specs.meaning.Once.{entries_in}
use Rattle.identifier_sets.specs.Keys.{same_key, key_of}
use Rattle.entry_check.specs.Ids.{as_list}

-- beside each key is the place of the only entry of its identifier
abbrev pub Finds : List ((ℕ × ℕ × ℕ) × ℕ) → List Entry → Type 0
Finds places entries = (x : Ltxid) → as_list
    (option_and_then (slice_get entries) (value_of same_key places (key_of x)))
    ≡ entries_in entries (x ∷ [])
