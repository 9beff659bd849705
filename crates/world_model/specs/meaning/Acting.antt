-- What a step of a client does: its frames are sent, and the pool gets back what the request lets
-- go.
use Rattle.std.specs.Prelude.{ℕ, Bool, true, List, [], ◌∷◌, ◌++◌, map, Option, Some, None, unwrap_or}
use Rattle.svc_values.specs.declared.frame.Up.{Up}
use Rattle.svc_values.specs.declared.frame.Up.TheVariants as up
use Rattle.pool_core.specs.declared.answers.Back.{Back}
use Rattle.pool_core.specs.declared.answers.Back.TheVariants as back
use Rattle.pool_core.specs.meaning.Slots.{Slots, give_back_answer}
use Rattle.client_model.specs.meaning.Verifying.{index_of}
use Rattle.client_model.specs.declared.input.Input.{Input}
use Rattle.client_model.specs.declared.input.Input.TheVariants.{Gone}
use Rattle.client_model.specs.declared.act.Act.{Act}
use Rattle.client_model.specs.declared.act.Hold.{Hold}
use Rattle.client_model.specs.declared.act.Hold.TheVariants.{GiveBack}
use Rattle.client_model.specs.meaning.Terms.{Phase, Running, Replaying}
use Rattle.client_model.specs.meaning.Released.{released}
use Rattle.world_model.specs.meaning.Settings.{Setting}
use Rattle.world_model.specs.meaning.Frames.{Owner, Sent}
use Rattle.world_model.specs.meaning.Links.{changed, sends}
use Rattle.world_model.specs.meaning.Clients.{Doing, step_at, heard, after_step, place_of}
use Rattle.world_model.specs.meaning.Machines.{Machine}

-- a connection that is given back and not kept is closed
abbrev pub closing : Hold → Back → List Up
closing GiveBack back.Closed = up.Close ∷ []
closing _ _ = []

-- all frames of the step
abbrev pub frames_of : Slots → ℕ → Act → List Up
frames_of pool connection act = act.send ++ closing act.hold (give_back_answer pool connection)

-- the index of the call whose reply is to come
abbrev pub call_in : Phase → ℕ
call_in (Running state) = state.track.call
call_in (Replaying state) = index_of state
call_in _ = 0

abbrev pub sent_by : Owner → ℕ → Up → Sent
sent_by owner call frame = record { owner = Some owner; call = call; frame = frame }

abbrev pub owner_at : Machine → ℕ → Owner
owner_at m client = record { client = client; place = place_of m.clients client }

-- The connection of the request, and 0 where it has none. (Then nothing is sent, and none is given
-- back.)
abbrev pub connection_of : Doing → ℕ
connection_of doing = unwrap_or doing.connection 0

-- after this act of the request, which stands so now
abbrev pub acts : Setting → Machine → ℕ → Doing → Bool → Act → Machine
acts setting m client doing holds_slot act = record m {
  links = changed (sends m.event (map (sent_by (owner_at m client) (call_in doing.talk.phase))
      (frames_of m.pool (connection_of doing) act))) m.links (connection_of doing);
  clients = after_step setting m.clients client doing act.hold;
  pool = released m.pool client (connection_of doing) holds_slot act.hold;
}

-- what the client does at an input now
abbrev pub act_at : Setting → Machine → Doing → Input → Act
act_at setting m doing input = (step_at setting.terms m.event m.tick doing input).done.act

-- the client hears the input, and acts
abbrev pub steps : Setting → Machine → ℕ → Doing → Bool → Input → Machine
steps setting m client doing holds_slot input =
    acts setting m client (heard setting.terms m.event m.tick doing input) holds_slot
    (act_at setting m doing input)

-- the connection of the request is gone, ended by this event
abbrev pub loses : Setting → Machine → ℕ → Doing → Option ℕ → Machine
loses setting m client doing ended = steps setting m client (record doing { connection = None })
    true (Gone (unwrap_or ended 0))
