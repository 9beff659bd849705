-- What was served, as a report tells it: one item for each thing that happened.
use Rattle.std.specs.Prelude.{ℕ, Bool, List, if◌then◌else◌}
use Rattle.svc_values.specs.declared.value.Value.{Value}
use Rattle.svc_values.specs.declared.draw.Draw.{Draw}
use Rattle.svc_values.specs.declared.call.Call.{Call}
use Rattle.svc_values.specs.declared.answer.Answer.{Answer}
use Rattle.svc_values.specs.declared.entry.Ltxid.{Ltxid}
use Rattle.svc_values.specs.declared.frame.Up.{Up}
use Rattle.svc_values.specs.declared.frame.Up.TheVariants as up
use Rattle.svc_values.specs.declared.frame.Down.{Down}
use Rattle.svc_values.specs.declared.frame.Down.TheVariants as down
use Rattle.svc_values.specs.declared.frame.Ahead.{Ahead}
use Rattle.svc_values.specs.declared.frame.Ahead.TheVariants as ahead
use Rattle.svc_values.specs.declared.entry.SessionId.{SessionId}
use Rattle.server_model.specs.meaning.Outcomes.{Telling, Silent, Says, Stopped}

-- what is told of an identifier
pub data Outcome : Type 0 where
  Uncommitted : Outcome
  Committed : (completed : Bool) → Outcome
  ServerAhead : (next : ℕ) → Outcome
  ClientAhead : (next : ℕ) → Outcome
  Forgotten : (horizon : ℕ) → Outcome

-- What a session did with a frame. A call with the mark brings kept draws. The two last are of
-- frames that a stop left without an answer.
pub data Thing : Type 0 where
  Connected : Thing
  Began : (settings : List (List ℕ × Value)) → Thing
  Called : (replay : Bool) (kept : List Draw) (called : Call) (answers : List Answer)
      (draws : List Draw) → Thing
  MetBlock : (replay : Bool) (called : Call) → Thing
  TellsOutcome : (x : Ltxid) (outcome : Outcome) → Thing
  EndedRequest : Thing
  Closed : Thing
  Refused : Thing
  CallStopped : (replay : Bool) (called : Call) → Thing
  OutcomeStopped : (x : Ltxid) → Thing

-- An item, with its event and the ticks before it; or an identifier that was asked from outside. A
-- run from outside is its session's items: it begins without settings, and its calls have no mark.
pub data Item : Type 0 where
  Did : (event now : ℕ) (session : SessionId) (thing : Thing) → Item
  AskTold : (event : ℕ) (x : Ltxid) (outcome : Outcome) → Item
  AskStopped : (event : ℕ) (x : Ltxid) → Item

-- ---- the items of a history

abbrev pub outcome_is : Bool → Bool → Outcome
outcome_is committed completed = if committed then Committed completed else Uncommitted

abbrev pub outcome_ahead : Ahead → ℕ → Outcome
outcome_ahead ahead.Server next = ServerAhead next
outcome_ahead ahead.Client next = ClientAhead next
outcome_ahead ahead.Forgotten horizon = Forgotten horizon

-- a frame that is told nothing
abbrev pub without_answer : Up → Thing
without_answer up.Connect = Connected
without_answer (up.Begin settings) = Began settings
without_answer (up.Call replay kept called) = CallStopped replay called
without_answer (up.Outcome x) = OutcomeStopped x
without_answer up.End = EndedRequest
without_answer up.Close = Closed

abbrev pub of_call : Bool → List Draw → Call → Down → Thing
of_call replay kept called (down.Reply answers draws x) = Called replay kept called answers draws
of_call replay kept called down.Blocked = MetBlock replay called
of_call replay kept called _ = Refused

abbrev pub of_outcome : Ltxid → Down → Thing
of_outcome x (down.OutcomeIs committed completed) = TellsOutcome x (outcome_is committed completed)
of_outcome x (down.OutcomeRefused ahead next) = TellsOutcome x (outcome_ahead ahead next)
of_outcome x _ = Refused

abbrev pub of_connect : Down → Thing
of_connect (down.Hello x) = Connected
of_connect _ = Refused

abbrev pub with_answer : Up → Down → Thing
with_answer up.Connect frame = of_connect frame
with_answer (up.Call replay kept called) frame = of_call replay kept called frame
with_answer (up.Outcome x) frame = of_outcome x frame
with_answer _ frame = Refused

abbrev pub thing_of : Up → Telling → Thing
thing_of frame Silent = without_answer frame
thing_of frame (Says down) = with_answer frame down
thing_of frame Stopped = without_answer frame

abbrev pub asked_of : ℕ → Ltxid → Telling → Item
asked_of event x (Says (down.OutcomeIs committed completed)) =
    AskTold event x (outcome_is committed completed)
asked_of event x (Says (down.OutcomeRefused ahead next)) =
    AskTold event x (outcome_ahead ahead next)
asked_of event x _ = AskStopped event x
