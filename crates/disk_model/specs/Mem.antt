-- What a disk in memory means, read off what it keeps.
use Rattle.std.specs.Prelude.{◌≡◌, ℕ, ◌+◌, ◌-◌, ◌^◌, ◌⊎◌, List, [], Some, min, Contains}
use Rattle.disk_model.specs.declared.mem.MemDisk.{MemDisk}
use Rattle.disk_model.specs.Disk.{DiskState}
use Rattle.disk_model.specs.Log.{first_bytes, past_of, now_of, is_nil}

-- its state, which is quiet exactly where no call is to fail
abbrev pub mem_state : MemDisk → DiskState
mem_state m = record {
  past = past_of (first_bytes m.log.items m.bytes.items) [] m.log.items m.bytes.items;
  now = now_of m.log.items m.bytes.items;
  faults = m.faults;
  stop = m.stop;
  quiet = is_nil m.failing.items;
  pick = m.pick;
}

-- how many calls of read, write_at and sync it has counted
abbrev pub calls_of : MemDisk → ℕ
calls_of m = m.calls

-- the numbers of the calls that are to fail
abbrev pub failing_of : MemDisk → List ℕ
failing_of m = m.failing.items

-- the number of the next call, kept in 64 bits
abbrev pub next_call : MemDisk → ℕ
next_call m = min (m.calls + 1) (2 ^ 64 - 1)

-- the next call fails: its stop is reached, or it is among those that are to fail
abbrev pub FailsNext : MemDisk → Type 0
FailsNext m = (m.stop ≡ Some 0) ⊎ Contains m.failing.items (next_call m)

-- one more call was counted, and the same calls are to fail
pub record IsCounted (old new : MemDisk) : Type 0 where
  pub calls : calls_of new ≡ next_call old
  pub failing : failing_of new ≡ failing_of old

-- no call was counted, and the same calls are to fail
pub record SameCalls (old new : MemDisk) : Type 0 where
  pub calls : calls_of new ≡ calls_of old
  pub failing : failing_of new ≡ failing_of old
