-- The steps of a client as they are told, request by request, each with what the request did at it.
use Rattle.std.specs.Prelude.{◌≡◌, ◌+◌, ℕ, IsTrue, List, [], ◌∷◌, ◌++◌, length, map, Option, Some, None}
use Rattle.outage_schedule.specs.declared.document.Document.{Document}
use Rattle.outage_schedule.specs.declared.document.Request.{Request}
use Rattle.outage_schedule.specs.declared.event.Event.{Event}
use Rattle.outage_schedule.specs.declared.item.Served.{Served}
use Rattle.outage_schedule.specs.declared.note.Note.{Note}
use Rattle.outage_schedule.specs.declared.request.RequestReport.{RequestReport}
use Rattle.run_clauses.specs.meaning.Copies.{next_of}
use Rattle.server_model.specs.Seen.{Seen}
use Rattle.client_model.specs.meaning.Terms.{requested}
use Rattle.client_model.specs.declared.input.Input.TheVariants.{Start}
use Rattle.shown_clauses.specs.meaning.Steps.{Step as StepTold, steps_of}
use Rattle.world_model.specs.meaning.Clients.{Step, Doing, Past, Client, client_at, script_at, begun, doing_of, reports_of}
use Rattle.world_model.specs.meaning.Finishing.{Place}
use Rattle.invariant_laws.specs.Invariant.{Invariant}
use Rattle.world_model.specs.Reached.{Reached, IsFinishing}
use Rattle.world_model.specs.records.Ready.{all_requests_right}
use Rattle.world_model.specs.meaning.Settings.{Setting}
use Rattle.world_model.specs.Traced.{Traced}
use Rattle.shown_laws.specs.ClientSteps.{now_at, TellsKind}
use Rattle.shown_laws.specs.Telling.{steps_told}

-- a step as it is told, and what the request did at it
pub record Telling : Type 0 where
  pub step : StepTold
  pub acts : List Step

abbrev pub steps_in_tellings : List Telling → List StepTold
steps_in_tellings tellings = map (λ one. one.step) tellings

-- a request before its Start
abbrev pub unbegun : Request → Doing
unbegun request = record {
  request = request;
  talk = requested request.settings request.calls;
  connection = None;
  steps = [];
}

-- The request was there before the event, with these steps, or it begins in it.
pub data Begins (t : Traced) (own : Client) (doing : Doing) : List Step → List Step → Type 0 where
  WasThere : own.now ≡ Some doing → Begins t own doing doing.steps []
  BeginsNow : (request : Request) → own.now ≡ None → own.next ≡ Some request
      → doing ≡ begun t.setting.terms (t.machine.event + 1) t.machine.tick request
      → Begins t own doing [] (now_at t (unbegun request) Start ∷ [])

-- One step of a request of this client, as it is told: in the state of the machine before its event
-- the client is at this request, and what is told is of this kind.
pub record TellsStep (setting : Setting) (client place : ℕ) (request : Request) (steps : List Step)
    (one : Telling) : Type 0 where
  pub t : Traced
  pub inv : Invariant t
  pub of_run : t.setting ≡ setting
  pub own : Client
  pub here : client_at t.machine.clients client ≡ Some own
  pub at : length own.past ≡ place
  pub doing : Doing
  pub does : doing_of t.setting.terms (t.machine.event + 1) t.machine.tick own ≡ Some doing
  pub same : doing.request ≡ request
  pub began : List Step
  pub begins : Begins t own doing steps began
  pub acts : List Step
  pub all : one.acts ≡ began ++ acts
  pub event : one.step.event ≡ t.machine.event + 1
  pub tick : one.step.tick ≡ t.machine.tick
  pub whose : one.step.client ≡ client
  pub kind : TellsKind t client place doing one.step acts

-- All steps of a request so far, in order, are told.
pub data TellsRequest (setting : Setting) (client place : ℕ) (request : Request) : List Telling
    → List Step → Type 0 where
  NoneYet : TellsRequest setting client place request [] []
  OneMore : (tellings : List Telling) (steps : List Step) (one : Telling)
      → TellsRequest setting client place request tellings steps
      → TellsStep setting client place request steps one
      → TellsRequest setting client place request (tellings ++ one ∷ []) (steps ++ one.acts)

-- the requests that are over, the first at this place
pub data TellsPast (setting : Setting) (client : ℕ) : ℕ → List Past → List (List Telling)
    → Type 0 where
  NonePast : (place : ℕ) → TellsPast setting client place [] []
  OnePast : (place : ℕ) (one : Past) (others : List Past) (tellings : List Telling)
      (more : List (List Telling)) → TellsRequest setting client place one.request tellings
      one.steps → TellsPast setting client (place + 1) others more
      → TellsPast setting client place (one ∷ others) (tellings ∷ more)

-- and the one in course
pub data TellsNow (setting : Setting) (client place : ℕ) : Option Doing → List Telling
    → Type 0 where
  NoneNow : TellsNow setting client place None []
  OneNow : (doing : Doing) (tellings : List Telling)
      → TellsRequest setting client place doing.request tellings doing.steps
      → TellsNow setting client place (Some doing) tellings

abbrev pub joined : List (List Telling) → List Telling
joined [] = []
joined (tellings ∷ more) = tellings ++ joined more

-- each request that is over was the one that the script lets follow the reports before it
abbrev pub FollowsFrom : List Request → List RequestReport → List Past → Type 0
FollowsFrom script before [] = Unit {0}
FollowsFrom script before (past ∷ others) = (next_of script before ≡ Some past.request)
    × FollowsFrom script (before ++ past.report ∷ []) others

-- A client follows its script: with each request, and with the next one, which is the one in course
-- if one is.
pub record IsScripted (script : List Request) (own : Client) : Type 0 where
  pub past : FollowsFrom script [] own.past
  pub next : own.next ≡ next_of script (reports_of own.past)
  pub now : (doing : Doing) → own.now ≡ Some doing → own.next ≡ Some doing.request

-- The steps that are told of a client are those of its requests, one request after the other.
pub record TellsClient (setting : Setting) (client : ℕ) (own : Client)
    (told : List StepTold) : Type 0 where
  pub past : List (List Telling)
  pub now : List Telling
  pub tells_past : TellsPast setting client 0 own.past past
  pub tells_now : TellsNow setting client (length own.past) own.now now
  pub all : told ≡ steps_in_tellings (joined past ++ now)
  pub scripted : IsScripted (script_at setting client) own

-- of each client, of which there are as many as scripts
pub record TellsClients (setting : Setting) (clients : List Client)
    (told : List StepTold) : Type 0 where
  pub many : length clients ≡ length setting.scripts
  pub each : (client : ℕ) (own : Client) → client_at clients client ≡ Some own
      → TellsClient setting client own (steps_of client told)

-- wherever a run has come to
abbrev pub RunsTellSteps : Type 0
RunsTellSteps =
    (document : Document) (events : List Event) (notes : List Note) (items : List Served)
    (seen : Seen) (t : Traced)
    → IsTrue (all_requests_right document) → Reached document events notes items seen t
    → TellsClients t.setting t.machine.clients (steps_told notes items)

abbrev pub FinishesTellSteps : Type 0
FinishesTellSteps =
    (document : Document) (place : Place) (notes : List Note) (items : List Served) (seen : Seen)
    (t : Traced)
    → IsTrue (all_requests_right document) → IsFinishing document place notes items seen t
    → TellsClients t.setting t.machine.clients (steps_told notes items)
