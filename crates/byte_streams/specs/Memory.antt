-- What a source and a sink in memory show.
use Rattle.std.specs.Prelude.{◌≡◌, ℕ, ◌+◌, ◌-◌, ◌^◌, min, List, drop, length, Contains}
use Rattle.byte_streams.specs.declared.memory.MemSource.{MemSource}
use Rattle.byte_streams.specs.declared.memory.MemSink.{MemSink}

-- the bytes not yet read
abbrev pub left_in : MemSource → List ℕ
left_in source = drop source.at source.bytes.items

abbrev pub read_faults : MemSource → ℕ
read_faults source = source.faults

-- the bytes taken so far
abbrev pub held_in : MemSink → List ℕ
held_in sink = sink.bytes.items

abbrev pub write_faults : MemSink → ℕ
write_faults sink = sink.faults

-- the number of the next call, from 1; a count in 64 bits stays where these end
abbrev pub after : ℕ → ℕ
after calls = min (calls + 1) (2 ^ 64 - 1)

-- How a source in memory reads: how often it was called, which calls fail, and the most bytes for a
-- call.
pub record Reading : Type 0 where
  pub calls : ℕ
  pub fail : List ℕ
  pub most : ℕ

abbrev pub reading_of : MemSource → Reading
reading_of source = record { calls = source.calls; fail = source.fail.items; most = source.most }

abbrev pub read_once : Reading → Reading
read_once reading = record reading { calls = after reading.calls }

abbrev pub FailsNextRead : Reading → Type 0
FailsNextRead reading = Contains reading.fail (after reading.calls)

-- as many bytes as there is room for, as are left, and as a call may give
abbrev pub next_read : Reading → List ℕ → ℕ → ℕ
next_read reading left room = min (min room reading.most) (length left)

-- How a sink in memory writes: how often it was called, which calls fail, which take nothing, and
-- the most bytes for a call.
pub record Writing : Type 0 where
  pub calls : ℕ
  pub fail : List ℕ
  pub nothing : List ℕ
  pub most : ℕ

abbrev pub writing_of : MemSink → Writing
writing_of sink = record {
  calls = sink.calls;
  fail = sink.fail.items;
  nothing = sink.nothing.items;
  most = sink.most;
}

abbrev pub written_once : Writing → Writing
written_once writing = record writing { calls = after writing.calls }

abbrev pub FailsNextWrite : Writing → Type 0
FailsNextWrite writing = Contains writing.fail (after writing.calls)

abbrev pub TakesNothingNext : Writing → Type 0
TakesNothingNext writing = Contains writing.nothing (after writing.calls)

-- nothing where this call is to take nothing, and else as many bytes of the piece as a call may
-- take
pub record IsNextWrite (writing : Writing) (piece : List ℕ) (count : ℕ) : Type 0 where
  pub nothing : TakesNothingNext writing → count ≡ 0
  pub front : (TakesNothingNext writing → ⊥) → count ≡ min (length piece) writing.most
