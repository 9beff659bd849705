-- What the outcome of a lost identifier leads to.
use Rattle.std.specs.Prelude.{ℕ, ◌+◌, ◌-◌, Bool, true, false, nat_le, nat_lt, Option, Some, None, if◌then◌else◌}
use Rattle.request_bounds.specs.declared.rule.Why.{Why}
use Rattle.request_bounds.specs.declared.clocked.Clocked.{Clocked}
use Rattle.client_model.specs.declared.track.Over.{Over}
use Rattle.client_model.specs.meaning.States.{Asking, Resuming, Repeating}

pub data Told : Type 0 where
  -- the lost call was committed and completed
  Committed : Resuming → Told
  -- it was committed, and the answers of its statements are lost
  Incomplete : Over → Told
  -- it was not committed, and there is a reason against a replay
  Disabled : Over → Why → Told
  -- as many replays were started as may be
  Replays : Over → Told
  -- too many ticks have passed since the first submitted call
  Late : Over → Told
  Replay : Repeating → Told

-- the request ends, with its track and the event of the loss
abbrev pub over : Asking → Over
over state = record { track = state.track; event = state.event }

-- the request goes on behind the lost call, on the session that answered
abbrev pub completed_on : Asking → Resuming
completed_on state = record { track = state.track; ltxid = state.fresh; event = state.event }

-- one replay more is started, on the session that answered
abbrev pub repeated : Asking → Repeating
repeated state = record {
  track = record state.track { replays = state.track.replays + 1 };
  ltxid = state.fresh;
  event = state.event;
  verified = 0;
}

-- more than `timeout` ticks have passed since the first submitted call, if there was one
abbrev pub is_late : ℕ → Option ℕ → ℕ → Bool
is_late timeout None now = false
is_late timeout (Some first) now = nat_lt timeout (now - first)

-- Uncommitted, the first that holds decides: a reason against replay is kept, all replays were
-- started, it is too late.
abbrev pub uncommitted : Option Why → Asking → Clocked → ℕ → Told
uncommitted (Some why) state limits now = Disabled (over state) why
uncommitted None state limits now =
    if nat_le limits.replays state.track.replays then Replays (over state)
    else (if is_late limits.timeout state.track.first now then Late (over state)
    else Replay (repeated state))

-- Committed comes before every reason against replay.
abbrev pub told_of : Asking → (committed completed : Bool) → Clocked → ℕ → Told
told_of state true true limits now = Committed (completed_on state)
told_of state true false limits now = Incomplete (over state)
told_of state false _ limits now = uncommitted state.track.why state limits now
