-- A frame that is served in order, as the plain server serves it.
use Rattle.std.specs.Prelude.{◌+◌, ℕ, Bool, false, cond, List, Option, Some, None}
use Rattle.svc_values.specs.declared.answer.Answer.{Answer}
use Rattle.svc_values.specs.declared.call.Call.{Call}
use Rattle.svc_values.specs.declared.draw.Draw.{Draw}
use Rattle.svc_values.specs.declared.value.Value.{Value}
use Rattle.svc_values.specs.declared.entry.Ltxid.{Ltxid}
use Rattle.svc_values.specs.declared.entry.SessionId.{SessionId}
use Rattle.svc_values.specs.declared.frame.Up.{Up}
use Rattle.svc_values.specs.declared.frame.Up.TheVariants as up
use Rattle.svc_values.specs.declared.frame.Down.{Down}
use Rattle.svc_values.specs.declared.frame.Down.TheVariants as down
use Rattle.svc_values.specs.meaning.Endings.{ends_committed}
use Rattle.outage_schedule.specs.declared.note.AskResult.{AskResult}
use Rattle.server_model.specs.meaning.Outcomes.{telling_of}
use Rattle.server_model.specs.Seen.{Store, Seen, IsHistory}
use Rattle.server_model.specs.ServiceCalls.{ServedOne}
use Rattle.world_model.specs.meaning.Serving.{Front, identifier, outcome_frame}
use Rattle.world_model.specs.Traced.{Traced}

-- What a session that has answered so many commits answers to a frame: an identifier that comes
-- with it has the number of them behind the frame.
pub data Answers (session : SessionId) (commits : ℕ) : Up → Option Down → Type 0 where
  Connects : Answers session commits up.Connect (Some (down.Hello (identifier session commits)))
  Begins : (settings : List (List ℕ × Value)) → Answers session commits (up.Begin settings) None
  Replies : (replay : Bool) (kept : List Draw) (call : Call) (answers : List Answer) (draws : List Draw)
      → Answers session commits (up.Call replay kept call) (Some (down.Reply answers draws (identifier session (commits + cond (ends_committed answers) 1 0))))
  Blocks : (replay : Bool) (kept : List Draw) (call : Call) → Answers session commits (up.Call replay kept call) (Some down.Blocked)
  Tells : (x : Ltxid) (result : AskResult) → Answers session commits (up.Outcome x) (Some (outcome_frame result))
  Ends : Answers session commits up.End None
  Closes : Answers session commits up.Close None

-- the answer ends with Committed
abbrev pub commits_in : Option Down → Bool
commits_in (Some (down.Reply answers draws x)) = ends_committed answers
commits_in _ = false

-- a frame was served, and with an answer, so that nothing of its store is left to a crash
abbrev pub no_store : Store → Type 0
no_store store = ⊥

abbrev pub ServedWith : Seen → ℕ → ℕ → Up → Option Down → Seen → Type 0
ServedWith old number now frame reply new = ServedOne old number now frame (telling_of reply) no_store new

-- whatever the frame in front is answered, it is as the plain server answers one in order
abbrev pub AnswersInOrder : Seen → Traced → ℕ → Front → Type 0
AnswersInOrder seen t number front =
    (reply : Option Down) (new : Seen) → IsHistory new → (served : ServedWith seen number t.machine.tick front.first.frame reply new) → Answers served.session front.link.commits front.first.frame reply
