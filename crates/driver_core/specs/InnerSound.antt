-- What every driver keeps: its calls can be sent, its counts fit, its identifiers are identifiers.
use Rattle.std.specs.Prelude.{◌≤◌, ◌<◌, ℕ, ◌+◌, List, length, Some, IfSome, max}
use Rattle.std.specs.List.{AllByRecursion}
use Rattle.svc_values.specs.Calls.{IsMade}
use Rattle.svc_values.specs.Identifiers.{IsLtxid}
use Rattle.svc_values.specs.declared.call.Call.{Call}
use Rattle.call_recorder.specs.declared.recorded.Recorded.{Recorded}
use Rattle.client_model.specs.declared.track.Track.{Track}
use Rattle.client_model.specs.meaning.Terms.{Talk, Phase, Idle, Seeking, Greeting, Asked, Running, Replaying}
use Rattle.client_model.specs.Laws.{track_of}

abbrev pub IsMadeRecorded : Recorded → Type 0
IsMadeRecorded one = IsMade one.call

-- the recorded calls are among those before the next one, and behind it are those that are left
pub record IsTracked (left : List Call) (track : Track) : Type 0 where
  pub within : length track.recorder.calls ≤ track.call
  pub few : track.call + length left ≤ 1024
  pub recorded : AllByRecursion IsMadeRecorded track.recorder.calls

-- the identifiers that a phase holds
abbrev pub HoldsLtxids : Phase → Type 0
HoldsLtxids (Seeking (Some lost)) = IsLtxid lost.ltxid
HoldsLtxids (Greeting (Some lost)) = IsLtxid lost.ltxid
HoldsLtxids (Asked asking) = IsLtxid asking.ltxid × IsLtxid asking.fresh
HoldsLtxids (Running state) = IsLtxid state.ltxid
HoldsLtxids (Replaying state) = IsLtxid state.ltxid
HoldsLtxids _ = Unit {0}

-- a request that goes on has a try left
abbrev pub HasTry : ℕ → ℕ → Phase → Type 0
HasTry retries tries Idle = Unit {0}
HasTry retries tries _ = tries < max 1 retries

pub record IsSound (retries : ℕ) (talk : Talk) : Type 0 where
  pub made : AllByRecursion IsMade talk.left
  pub few : length talk.left ≤ 1024
  pub tries : HasTry retries talk.tries talk.phase
  pub tracked : IfSome (track_of talk.phase) (IsTracked talk.left)
  pub ltxids : HoldsLtxids talk.phase
