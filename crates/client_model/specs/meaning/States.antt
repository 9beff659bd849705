-- The states of a request whose connection may be lost, and how one comes from another.
use Rattle.std.specs.Prelude.{ℕ, slice_get, Option}
use Rattle.svc_values.specs.declared.entry.Ltxid.{Ltxid}
use Rattle.call_recorder.specs.declared.recorded.Recorded.{Recorded}
use Rattle.client_model.specs.declared.track.Track.{Track}

-- on a session with this identifier
pub record Living : Type 0 where
  pub track : Track
  pub ltxid : Ltxid

-- without a session: `ltxid` is the identifier whose outcome is to be asked, and `event` ended its
-- connection
pub record Losing : Type 0 where
  pub track : Track
  pub ltxid : Ltxid
  pub event : ℕ

-- the outcome was asked on a new session, whose identifier is `fresh`
pub record Asking : Type 0 where
  pub track : Track
  pub ltxid : Ltxid
  pub fresh : Ltxid
  pub event : ℕ

-- on the session that answered, where the lost call was completed; `event` ended the lost
-- connection
pub record Resuming : Type 0 where
  pub track : Track
  pub ltxid : Ltxid
  pub event : ℕ

-- on a new session, on which the recorded calls are repeated: `verified` of them had the same
-- answers
pub record Repeating : Type 0 where
  pub track : Track
  pub ltxid : Ltxid
  pub event : ℕ
  pub verified : ℕ

abbrev pub lost_by : Living → ℕ → Losing
lost_by state event = record { track = state.track; ltxid = state.ltxid; event = event }

abbrev pub asked_on : Losing → Ltxid → Asking
asked_on state fresh = record {
  track = state.track;
  ltxid = state.ltxid;
  fresh = fresh;
  event = state.event;
}

-- no outcome was taken, so the first loss stands
abbrev pub lost_again : Asking → Losing
lost_again state = record { track = state.track; ltxid = state.ltxid; event = state.event }

-- an outcome was taken on the session that is lost, so its identifier is the one to be asked
abbrev pub lost_in_replay : Repeating → ℕ → Losing
lost_in_replay state event = record { track = state.track; ltxid = state.ltxid; event = event }

-- the request goes on with the call behind the completed one
abbrev pub resumed : Resuming → Living
resumed state = record { track = state.track; ltxid = state.ltxid }

-- the recorded call that is repeated next, if one is left
abbrev pub next_of : Repeating → Option Recorded
next_of state = slice_get state.track.recorder.calls state.verified
