-- The answers of a repeated call are those of before, or the request ends.
use Rattle.std.specs.Prelude.{ℕ, ◌+◌, ◌-◌, List, length, Result, Ok, Err, if◌then◌else◌}
use Rattle.std.specs.Str.{bytes_eq}
use Rattle.call_recorder.specs.declared.recorded.Recorded.{Recorded}
use Rattle.client_model.specs.declared.track.Over.{Over}
use Rattle.client_model.specs.declared.track.Mismatch.{Mismatch}
use Rattle.client_model.specs.meaning.States.{Living, Repeating}

-- the index in the request of the recorded call at this place: the recorded ones are those before
-- the call to be sent
abbrev pub index_of : Repeating → ℕ
index_of state = state.track.call - (length state.track.recorder.calls - state.verified)

abbrev pub verified_more : Repeating → Repeating
verified_more state = record state { verified = state.verified + 1 }

abbrev pub mismatch : Repeating → List ℕ → List ℕ → Over × Mismatch
mismatch state seen now = (
  record {
    track = state.track;
    event = state.event;
  },
  record { call = index_of state; seen = seen; now = now },
)

-- The answers of the next call have this digest now: it is the same as before, or the request ends.
abbrev pub compared : Recorded → Repeating → List ℕ → Result Repeating (Over × Mismatch)
compared one state now = if bytes_eq one.seen.digest now then Ok (verified_more state) else
    Err (mismatch state one.seen.digest now)

-- on the session of a replay, with the lost call to be sent without the mark
abbrev pub submitted : Repeating → Living
submitted state = record { track = state.track; ltxid = state.ltxid }
