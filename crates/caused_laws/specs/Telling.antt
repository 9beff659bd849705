-- What a step that is shown of a client tells of the inputs of its request.
use Rattle.std.specs.Prelude.{◌≡◌, ◌⊎◌, ◌<◌, ◌+◌, ℕ, Bool, true, false, IsTrue, List, [], ◌∷◌, ◌++◌, length, flat_map, Option, Some, None}
use Rattle.svc_values.specs.declared.entry.Ltxid.{Ltxid}
use Rattle.svc_values.specs.declared.frame.Down.{Down}
use Rattle.outage_schedule.specs.declared.document.Request.{Request}
use Rattle.outage_schedule.specs.declared.item.Item.{Item}
use Rattle.outage_schedule.specs.declared.item.Item.TheVariants as item
use Rattle.outage_schedule.specs.declared.item.Served.{Served}
use Rattle.outage_schedule.specs.declared.note.GoNote.{GoNote}
use Rattle.outage_schedule.specs.declared.note.GoNote.TheVariants as go
use Rattle.client_model.specs.declared.act.Act.{Act}
use Rattle.client_model.specs.declared.act.Hold.TheVariants.{GiveBack}
use Rattle.client_model.specs.declared.input.Input.{Input}
use Rattle.client_model.specs.declared.input.Input.TheVariants.{Start, Waiting, Lent, Opened, TryFailed, Took, Gone}
use Rattle.client_model.specs.declared.input.Wants.TheVariants as wants
use Rattle.client_model.specs.meaning.Terms.{Terms, Talk, Idle, requested}
use Rattle.client_model.specs.meaning.Talk.{talk_step, wants_of}
use Rattle.client_model.specs.meaning.Conversation.{Timed, Done}
use Rattle.client_model.specs.Conversation.{steps_of, talk_after, is_gone_next, MayCome}
use Rattle.client_model.specs.meaning.Account.{Account, account_of}
use Rattle.client_model.specs.Laws.{is_expected}
use Rattle.shown_clauses.specs.meaning.Links.{Link}
use Rattle.shown_clauses.specs.meaning.Steps.{Step}
use Rattle.shown_clauses.specs.meaning.Causes.{has_held}
use Rattle.caused_laws.specs.Replies.{Replies, Answers}

-- a step that is shown, with the inputs of the request that it tells
pub record ToldStep : Type 0 where
  pub step : Step
  pub inputs : List Timed

-- A request up to a step: its steps that were shown before, the newest first, and all inputs that
-- came before.
pub record Before : Type 0 where
  pub steps : List Step
  pub inputs : List Timed

abbrev pub first_talk : Request → Talk
first_talk request = requested request.settings request.calls

-- its own steps, where its conversation stands, and what was told so far
abbrev pub dones_of : Terms → Request → List Timed → List Done
dones_of terms request inputs = steps_of terms (first_talk request) inputs

abbrev pub talk_of : Terms → Request → List Timed → Talk
talk_of terms request inputs = talk_after terms (first_talk request) inputs

abbrev pub account_at : Terms → Request → List Timed → Account
account_at terms request inputs = account_of terms request.calls (dones_of terms request inputs)

-- SLOTS AND TRIES ---------------------------------------------------------------------------------

-- one input, and where nothing came before the request begins with it
abbrev pub begun_with : List Timed → ℕ → Input → List Timed
begun_with [] tick input = (Start, tick) ∷ (input, tick) ∷ []
begun_with (one ∷ before) tick input = (input, tick) ∷ []

-- FRAMES ------------------------------------------------------------------------------------------

-- So many frames were sent: those of the act, and Close where a connection that is given back is
-- closed.
abbrev pub SentBy : Act → ℕ → Type 0
SentBy act sent = (sent ≡ length act.send) ⊎ ((act.hold ≡ GiveBack) × (sent ≡ length act.send + 1))

-- The connection of the identifier that is asked: the request held it before this step, and it was
-- ended by the event that the request knows of.
pub record WasLost (heard : Account) (steps : List Step) (lost : Option Link) : Type 0 where
  pub link : Link
  pub is_link : lost ≡ Some link
  pub held : IsTrue (has_held steps link)
  pub is_event : 0 < link.ended
  pub ended : heard.ended ≡ Some link.ended

abbrev pub LostBy : Account → List Step → Option Link → Item → Type 0
LostBy heard steps lost (item.Outcome x result) = WasLost heard steps lost
LostBy heard steps lost _ = Unit {0}

-- Behind a frame of a connection that has ended the request loses it at once, where it goes on.
abbrev pub loss_behind : Bool → ℕ → ℕ → List Timed
loss_behind true event tick = (Gone event, tick) ∷ []
loss_behind false event tick = []

-- what the request does at an input behind these
abbrev pub act_at : Terms → Request → List Timed → Timed → Act
act_at terms request inputs one = (talk_step terms (talk_of terms request inputs) one.0 one.1).1

-- A step that takes a frame: the reply to an item that answers the last frame that was sent. The
-- frame is one that a client expects there: of no identifier that it asks for is it told that the
-- server or the client is ahead.
pub record IsTaking (terms : Terms) (request : Request) (before : Before) (one : ToldStep)
    (sent : ℕ) : Type 0 where
  pub served : Served
  pub is_served : one.step.taken ≡ Some served
  pub frame : Down
  pub replies : Replies served.item frame
  pub answers : Answers (account_at terms request before.inputs).last served.item
  pub expected : is_expected (account_at terms request before.inputs).last frame ≡ true
  pub alive : Bool
  pub event : ℕ
  pub inputs_are : one.inputs ≡ (Took frame alive, one.step.tick) ∷ loss_behind
      (is_gone_next (Took frame alive) (act_at terms request before.inputs (
        Took frame alive,
        one.step.tick,
      )).hold) event one.step.tick
  pub sends : SentBy (act_at terms request before.inputs (Took frame alive, one.step.tick)) sent
  pub lost : LostBy (account_at terms request before.inputs) before.steps one.step.lost served.item

-- STEPS -------------------------------------------------------------------------------------------

-- These inputs, and no frame is taken.
pub record Has (one : ToldStep) (inputs : List Timed) : Type 0 where
  pub inputs_are : one.inputs ≡ inputs
  pub takes_none : one.step.taken ≡ None

-- What a step tells, by its note. A request waits for a frame where one may come, and is too early
-- where a try is wanted. A client that is finished makes no step.
abbrev pub TellsBy : Terms → Request → Before → ToldStep → GoNote → Type 0
TellsBy terms request before one go.Idle = ⊥
TellsBy terms request before one go.Wait = Has one (begun_with before.inputs one.step.tick Waiting)
TellsBy terms request before one go.NoFrame =
    Has one [] × (wants_of terms (talk_of terms request before.inputs) one.step.tick ≡ wants.Frame)
TellsBy terms request before one go.Early =
    Has one [] × (wants_of terms (talk_of terms request before.inputs) one.step.tick ≡ wants.Early)
TellsBy terms request before one go.Down =
    Has one (begun_with before.inputs one.step.tick TryFailed)
TellsBy terms request before one (go.Open connection) =
    Has one (begun_with before.inputs one.step.tick (Opened connection))
TellsBy terms request before one (go.Lent connection) =
    (x : Ltxid) × Has one (begun_with before.inputs one.step.tick (Lent connection x))
TellsBy terms request before one (go.Took connection sent) = IsTaking terms request before one sent
TellsBy terms request before one (go.Lost connection) =
    (event : ℕ) × Has one ((Gone event, one.step.tick) ∷ [])

abbrev pub Tells : Terms → Request → Before → ToldStep → Type 0
Tells terms request before one = TellsBy terms request before one one.step.did

-- behind a step
abbrev pub behind : Before → ToldStep → Before
behind before one = record { steps = one.step ∷ before.steps; inputs = before.inputs ++ one.inputs }

-- each of these, one after the other
abbrev pub AllTell : Terms → Request → Before → List ToldStep → Type 0
AllTell terms request before [] = Unit {0}
AllTell terms request before (one ∷ more) = Tells terms request before one
    × AllTell terms request (behind before one) more

-- CONVERSATIONS -----------------------------------------------------------------------------------

abbrev pub nothing_before : Before
nothing_before = record { steps = []; inputs = [] }

abbrev pub inputs_of : List ToldStep → List Timed
inputs_of all = flat_map (λ one. one.inputs) all

-- These are all steps of a request as they are shown: each input may come at its turn, and behind
-- the last one the conversation is over. (Before that it is not, since nothing may come behind its
-- end.)
pub record IsConversation (terms : Terms) (request : Request) (all : List ToldStep) : Type 0 where
  pub may : MayCome terms (first_talk request) false (inputs_of all)
  pub tell : AllTell terms request nothing_before all
  pub over : (talk_of terms request (inputs_of all)).phase ≡ Idle
