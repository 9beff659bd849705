-- What a client goes by, and the states of its request.
use Rattle.std.specs.Prelude.{ℕ, false, List, [], Option, None}
use Rattle.svc_values.specs.declared.answer.Answer.{Answer}
use Rattle.svc_values.specs.declared.call.Call.{Call}
use Rattle.svc_values.specs.declared.value.Value.{Value}
use Rattle.request_bounds.specs.declared.clocked.Clocked.{Clocked}
use Rattle.request_bounds.specs.meaning.Rules.{Rules}
use Rattle.client_model.specs.declared.track.Track.{Track}
use Rattle.client_model.specs.meaning.States.{Living, Losing, Asking, Repeating}

-- What a client goes by: the rule of its requests, the limits of the service, how many calls are
-- recorded at most, and the digest by which answers are told apart.
pub record Terms : Type 0 where
  pub rules : Rules
  pub limits : Clocked
  pub recorded : ℕ
  pub digest : List Answer → List ℕ

-- How far a request has come. From its first Begin on a request without a session knows by `lost`
-- whose outcome to ask.
pub data Phase : Type 0 where
  -- no request is there
  Idle : Phase
  -- one is there and has not begun
  Unbegun : Phase
  -- it has no slot; it was told to wait at this tick first, if at all
  Queued : (from : Option ℕ) → Phase
  -- it has a slot, and no connection
  Seeking : (lost : Option Losing) → Phase
  -- it opened a connection, and awaits Hello
  Greeting : (lost : Option Losing) → Phase
  -- it asked for an outcome, and awaits it
  Asked : Asking → Phase
  -- it sent a call, and awaits the reply
  Running : Living → Phase
  -- it sent a recorded call again, and awaits the reply
  Replaying : Repeating → Phase

-- A conversation: the settings that a Begin carries, and those that are `set` since they were
-- settled, under a rule that keeps settings; the calls that are not shown yet; how many tries in a
-- row failed, and at which tick the last failed one was made; and the phase.
pub record Talk : Type 0 where
  pub settings : List (List ℕ × Value)
  pub sets : List (List ℕ × Value)
  pub left : List Call
  pub tries : ℕ
  pub last_try : Option ℕ
  pub phase : Phase

-- with a request that has not begun
abbrev pub requested : List (List ℕ × Value) → List Call → Talk
requested settings calls = record {
  settings = settings;
  sets = [];
  left = calls;
  tries = 0;
  last_try = None;
  phase = Unbegun;
}

-- the track at the first Begin
abbrev pub unsubmitted : Terms → Track
unsubmitted terms = record {
  recorder = record { limit = terms.recorded; calls = [] };
  why = None;
  replays = 0;
  first = None;
  set_shown = false;
  call = 0;
}
