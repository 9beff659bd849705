-- The conversation of each request to the letter, of which the tests of Script tell parts.
use Rattle.std.specs.Prelude.{◌≡◌, ℕ, Bool, false, List, [], ◌∷◌, map, fold, Option, Some, None}
use Rattle.client_model.specs.declared.input.Input.{Input}
use Rattle.client_model.specs.declared.input.Input.TheVariants.{Lent, Opened, Gone}
use Rattle.client_model.specs.meaning.Terms.{Terms, Talk, Idle, requested}
use Rattle.client_model.specs.meaning.Conversation.{Timed, talk_at, done_at}
use Rattle.client_model.specs.Conversation.{steps_of, talk_after, is_gone_next, MayCome}
use Rattle.outage_schedule.specs.declared.document.Request.{Request}
use Rattle.world_model.specs.meaning.Clients.{Step, Doing, Past, Client}
use Rattle.run_clauses.specs.meaning.Reports.{report_of}
use Rattle.world_model.specs.Words.{dones_of}

abbrev pub timed : Step → Timed
timed step = (step.done.input, step.done.now)

abbrev pub inputs_of : List Step → List Timed
inputs_of steps = map timed steps

abbrev pub first_talk : Request → Talk
first_talk request = requested request.settings request.calls

-- behind these inputs Gone is the next one
abbrev pub gone_due : Terms → Talk → Bool → List Timed → Bool
gone_due terms talk due [] = due
gone_due terms talk due (one ∷ inputs) =
    gone_due terms (talk_at terms talk one) (is_gone_next one.0 (done_at terms talk one).act.hold)
    inputs

-- the connection that the inputs left
abbrev pub connected : Option ℕ → Input → Option ℕ
connected had (Lent connection ltxid) = Some connection
connected had (Opened connection) = Some connection
connected had (Gone event) = None
connected had _ = had

abbrev pub connection_after : List Step → Option ℕ
connection_after steps = fold (λ had step. connected had step.done.input) None steps

-- The steps are those of the client at their inputs, each of which may come at its turn.
pub record Converses (terms : Terms) (request : Request) (steps : List Step) : Type 0 where
  pub acts : dones_of steps ≡ steps_of terms (first_talk request) (inputs_of steps)
  pub may : MayCome terms (first_talk request) false (inputs_of steps)

-- A request in course stands where they lead, and has the connection that they left.
pub record Talks (terms : Terms) (due : Bool) (doing : Doing) : Type 0 where
  pub converses : Converses terms doing.request doing.steps
  pub stands : talk_after terms (first_talk doing.request) (inputs_of doing.steps) ≡ doing.talk
  pub loss : gone_due terms (first_talk doing.request) false (inputs_of doing.steps) ≡ due
  pub has : connection_after doing.steps ≡ doing.connection

-- one that is over has the report of its steps
pub record IsThrough (terms : Terms) (past : Past) : Type 0 where
  pub converses : Converses terms past.request past.steps
  pub ended : (talk_after terms (first_talk past.request) (inputs_of past.steps)).phase ≡ Idle
  pub reported : report_of terms past.request (dones_of past.steps) ≡ past.report

abbrev pub AreThrough : Terms → List Past → Type 0
AreThrough terms [] = Unit {0}
AreThrough terms (past ∷ others) = IsThrough terms past × AreThrough terms others

-- between two events no loss is due
abbrev pub IsTalking : Terms → Option Doing → Type 0
IsTalking terms None = Unit {0}
IsTalking terms (Some doing) = Talks terms false doing

abbrev pub AllTalk : Terms → List Client → Type 0
AllTalk terms [] = Unit {0}
AllTalk terms (client ∷ clients) = (AreThrough terms client.past × IsTalking terms client.now)
    × AllTalk terms clients
