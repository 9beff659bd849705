-- Entries that were stored, and those that are left.
use Rattle.std.specs.Prelude.{◌≡◌, ◌≤◌, ℕ, List, [], ◌∷◌, ◌++◌, Option, Some, None, length, take, drop}
use Rattle.svc_values.specs.declared.entry.Entry.{Entry}
use Rattle.svc_values.specs.declared.entry.SessionId.{SessionId}
use Rattle.server_model.specs.meaning.Walk.{number_of, take_entry}
use Rattle.legal_walk.specs.Counts.{counted}

pub record Stored : Type 0 where
  pub stored : List Entry
  pub left : List Entry

-- of these entries of a run the first few were stored behind those of the time before
abbrev pub stored_so_far : List Entry → List Entry → ℕ → Stored
stored_so_far before entries taken = record {
  stored = before ++ take taken entries;
  left = drop taken entries;
}

-- no more are stored than there are, and they are counted
pub record IsLedger (before entries : List Entry) (taken : ℕ)
    (counts : List ((ℕ × ℕ) × ℕ)) : Type 0 where
  pub within : taken ≤ length entries
  pub are_counted : (session : SessionId)
      → counted counts session ≡ number_of (before ++ take taken entries) session

abbrev pub first_of : List Entry → Option Entry
first_of [] = None
first_of (entry ∷ left) = Some entry

-- the first of those that are left is stored
abbrev pub with_first : Stored → Stored
with_first s = let taken = take_entry s.stored s.left in record { stored = taken.0; left = taken.1 }
