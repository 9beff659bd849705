-- The fields of a driver as a conversation.
use Rattle.std.specs.Prelude.{List, [], ◌∷◌, Option}
use Rattle.svc_values.specs.declared.frame.Up.{Up}
use Rattle.client_model.specs.meaning.States.{Losing}
use Rattle.client_model.specs.meaning.Terms.{Talk}
use Rattle.client_model.specs.meaning.Terms as plain
use Rattle.replay_core.specs.declared.lost.Lost.{Lost}
use Rattle.driver_core.specs.declared.phase.Phase.{Phase}
use Rattle.driver_core.specs.declared.phase.Phase.TheVariants as phase
use Rattle.client_model.specs.meaning.Talk.{Step, stands, begin_of}
use Rattle.driver_core.specs.declared.request.Request.{Request}
use Rattle.driver_core.specs.declared.turn.Turn.{Turn}
use Rattle.driver_core.specs.declared.going.Before.{Before}
use Rattle.driver_core.specs.declared.going.Before.TheVariants as before

-- the phase in which a driver is
abbrev pub phase_of : Phase → plain.Phase
phase_of phase.Idle = plain.Idle
phase_of phase.Unbegun = plain.Unbegun
phase_of (phase.Queued from) = plain.Queued from
phase_of (phase.Seeking lost) = plain.Seeking lost
phase_of (phase.Greeting lost) = plain.Greeting lost
phase_of (phase.Asked asked) = plain.Asked asked
phase_of (phase.Running live) = plain.Running live
phase_of (phase.Replaying replaying) = plain.Replaying replaying

abbrev pub losing_of : Option Lost → Option Losing
losing_of lost = lost

-- the conversation of a request in this phase
abbrev pub talk_of : Request → plain.Phase → Talk
talk_of request phase = record {
  settings = request.settings;
  sets = request.sets.items;
  left = request.left.items;
  tries = request.tries;
  last_try = request.last_try;
  phase = phase;
}

-- the same where the phase does not count
abbrev pub rest_of : Request → Talk
rest_of request = talk_of request plain.Idle

-- a conversation behind a turn
abbrev pub step_in : Talk → Turn → Step
step_in talk turn = (stands talk (phase_of turn.phase), turn.act)

-- the frames that go out before a call
abbrev pub frames_of : Before → Talk → List Up
frames_of before.Nothing talk = []
frames_of before.Begin talk = begin_of talk ∷ []
