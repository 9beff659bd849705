-- The moments that a disk in memory stands for, by what it keeps of its writes. A log has its first
-- write first.
use Rattle.std.specs.Prelude.{ℕ, ◌+◌, Bool, true, false, if◌then◌else◌, List, [], ◌∷◌, ◌++◌, take, drop}
use Rattle.disk_model.specs.declared.kept.KeptWrite.{KeptWrite}
use Rattle.disk_model.specs.Moment.{DiskMoment}

-- the bytes before a write, from those after it
abbrev pub bytes_before : KeptWrite → List ℕ → List ℕ
bytes_before w after = take w.at after ++ w.covered.items ++ drop (w.at + w.len) after

-- the bytes before all of these writes, from those after them
abbrev pub first_bytes : List KeptWrite → List ℕ → List ℕ
first_bytes [] bytes = bytes
first_bytes (w ∷ log) bytes = bytes_before w (first_bytes log bytes)

-- what was synced last once a write was made, where `synced` was before it and `after` stood behind
-- it
abbrev pub synced_after : KeptWrite → List ℕ → List ℕ → List ℕ
synced_after w synced after = if w.synced then after else synced

-- the ranges written since the last sync once a write was made, where these were before it
abbrev pub ranges_after : KeptWrite → List (ℕ × ℕ) → List (ℕ × ℕ)
ranges_after w ranges = if w.synced then [] else (w.at, w.len) ∷ ranges

-- the moment between a write and the sync that followed it, if one did
abbrev pub before_sync : KeptWrite → List ℕ → List (ℕ × ℕ) → List ℕ → List DiskMoment
before_sync w synced ranges after = if w.synced then record {
  seen = after;
  synced = synced;
  written = (w.at, w.len) ∷ ranges;
} ∷ [] else []

-- what was synced last, where `synced` was before these writes
abbrev pub synced_of : List ℕ → List KeptWrite → List ℕ → List ℕ
synced_of synced [] bytes = synced
synced_of synced (w ∷ log) bytes = synced_of (synced_after w synced (first_bytes log bytes)) log
    bytes

-- the ranges written since the last sync, where these were before the writes
abbrev pub ranges_of : List (ℕ × ℕ) → List KeptWrite → List (ℕ × ℕ)
ranges_of ranges [] = ranges
ranges_of ranges (w ∷ log) = ranges_of (ranges_after w ranges) log

-- each moment but the last: one before each write, and one before each sync
abbrev pub past_of : List ℕ → List (ℕ × ℕ) → List KeptWrite → List ℕ → List DiskMoment
past_of synced ranges [] bytes = []
past_of synced ranges (w ∷ log) bytes =
    record { seen = first_bytes (w ∷ log) bytes; synced = synced; written = ranges }
    ∷ (before_sync w synced ranges (first_bytes log bytes)
    ++ past_of (synced_after w synced (first_bytes log bytes)) (ranges_after w ranges) log bytes)

-- the last moment; the bytes before the first write count as synced
abbrev pub now_of : List KeptWrite → List ℕ → DiskMoment
now_of log bytes = record {
  seen = bytes;
  synced = synced_of (first_bytes log bytes) log bytes;
  written = ranges_of [] log;
}

-- there are none
abbrev pub is_nil : List ℕ → Bool
is_nil [] = true
is_nil (x ∷ xs) = false
