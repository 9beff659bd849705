-- What a disk in memory keeps to, and how what it keeps of its writes goes on.
use Rattle.std.specs.Prelude.{◌≡◌, ℕ, ◌+◌, ◌<◌, ◌≤◌, true, false, List, [], ◌∷◌, ◌++◌, length}
use Rattle.std.proofs.Props.{props}
use Rattle.disk_model.specs.declared.kept.KeptWrite.{KeptWrite}
use Rattle.disk_model.specs.Log.{bytes_before, first_bytes}

-- a write within the bytes after it, which kept what it covered: less than its length only where it
-- ended past the end
pub record Covers (w : KeptWrite) (after : List ℕ) : Type 0 where
  pub within : w.at + w.len ≤ length after
  pub covered : length w.covered.items ≤ w.len
  pub at_end : length w.covered.items < w.len → w.at + w.len ≡ length after

-- each write of the log kept what it covered
abbrev pub IsLog : List KeptWrite → List ℕ → Type 0
IsLog [] bytes = Unit {0}
IsLog (w ∷ log) bytes = Covers w (first_bytes log bytes) × IsLog log bytes

pub is_prop_log : (log : List KeptWrite) (bytes : List ℕ) → IsProp (IsLog log bytes)
is_prop_log [] bytes = hlevel props
is_prop_log (w ∷ log) bytes = hlevel (props, is_prop_log log bytes)

-- the log has one write more, of n bytes at this offset, by which the old bytes became the new ones
pub record Logged (at n : ℕ) (old new : List ℕ) (log later : List KeptWrite) : Type 0 where
  pub entry : KeptWrite
  pub one_more : later ≡ log ++ entry ∷ []
  pub offset : entry.at ≡ at
  pub size : entry.len ≡ n
  pub pending : entry.synced ≡ false
  pub undoes : bytes_before entry new ≡ old
  pub covers : Covers entry new

-- a write that a sync followed
abbrev pub synced_write : KeptWrite → KeptWrite
synced_write w = record w { synced = true }

-- the log with a sync behind its last write
abbrev pub with_sync : List KeptWrite → List KeptWrite
with_sync [] = []
with_sync (w ∷ []) = synced_write w ∷ []
with_sync (w ∷ x ∷ log) = w ∷ with_sync (x ∷ log)
