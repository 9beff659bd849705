-- Whose turn it is that a session serves: the request that sent its Begin is the one that acquired
-- the session last before.
use Rattle.std.specs.Prelude.{◌≡◌, ◌==◌, ◌&&◌, ℕ, Bool, true, false, IsTrue, List, [], ◌∷◌, map, fold, slice_get, Option, Some, None, option_map}
use Rattle.std.specs.List.{list_any}
use Rattle.std.specs.Option.{option_map_or}
use Rattle.svc_values.specs.declared.entry.Ltxid.{Ltxid}
use Rattle.svc_values.specs.declared.frame.Up.{Up}
use Rattle.svc_values.specs.declared.frame.Up.TheVariants as up
use Rattle.client_model.specs.declared.input.Input.{Input}
use Rattle.client_model.specs.declared.input.Input.TheVariants.{Lent, Took}
use Rattle.outage_schedule.specs.declared.document.Document.{Document}
use Rattle.outage_schedule.specs.declared.event.Event.{Event}
use Rattle.outage_schedule.specs.declared.item.Served.{Served}
use Rattle.outage_schedule.specs.declared.note.Note.{Note}
use Rattle.server_model.specs.Seen.{Seen as ServerSeen}
use Rattle.shown_clauses.specs.meaning.Links.{Acquired, Link as SeenLink, Turn, link_of}
use Rattle.shown_clauses.specs.meaning.Steps.{turns_seen}
use Rattle.shown_clauses.specs.meaning.Turns.{is_turn_right}
use Rattle.world_model.specs.meaning.Clients.{Step, Past, Client, client_at}
use Rattle.world_model.specs.meaning.Frames.{Owner, Sent, Handled}
use Rattle.world_model.specs.meaning.Links.{Link, link_at}
use Rattle.world_model.specs.Reached.{Reached, IsRun}
use Rattle.world_model.specs.records.Ready.{all_requests_right}
use Rattle.world_model.specs.Traced.{Traced}
use Rattle.invariant_laws.specs.UnservedBegins.{last_owner}
use Rattle.shown_laws.specs.AcquiredTold.{last_acquired}
use Rattle.shown_laws.specs.ByPlace.{RequestSteps, IsRequestOf}
use Rattle.shown_laws.specs.Submitted.{submission_of}
use Rattle.shown_laws.specs.Telling.{seen_told, steps_told}
use Rattle.shown_laws.specs.TurnsOver.{WereTurns}
use Rattle.shown_laws.specs.TurnsServed.{served_in}

-- STEPS -------------------------------------------------------------------------------------------

-- it is lent a connection, or takes a reply
abbrev pub is_met : Input → Bool
is_met (Lent connection ltxid) = true
is_met (Took frame alive) = true
is_met _ = false

abbrev pub meets_at : ℕ → Step → Bool
meets_at event step = (step.event == event) && is_met step.done.input

abbrev pub has_step_at : ℕ → List Step → Bool
has_step_at event steps = list_any (meets_at event) steps

-- An acquisition is a step of this request.
pub record IsStepOf (clients : List Client) (owner : Owner) (acquired : Acquired) : Type 0 where
  pub whose : acquired.client ≡ owner.client
  pub one : RequestSteps
  pub request : IsRequestOf clients owner one
  pub among : has_step_at acquired.event one.steps ≡ true

-- SESSIONS ----------------------------------------------------------------------------------------

-- of a connection: who sent last on it, and the identifier that was taken last
pub record Said : Type 0 where
  pub last : Option Owner
  pub held : Option Ltxid

abbrev pub said_of : Link → Said
said_of link = record { last = last_owner link.sent; held = link.held }

abbrev pub said_at : ℕ → List Link → Option Said
said_at number links = option_map said_of (link_at links number)

-- Its session was acquired by a step of the request that sent last on it, or by none, and then no
-- identifier was taken.
pub data Tied (clients : List Client) : Option Said → Option Acquired → Type 0 where
  Unopened : Tied clients None None
  Unheard : (said : Said) → said.held ≡ None → Tied clients (Some said) None
  Heard : (said : Said) (owner : Owner) (acquired : Acquired) → said.last ≡ Some owner
      → IsStepOf clients owner acquired → Tied clients (Some said) (Some acquired)

-- TURNS -------------------------------------------------------------------------------------------

-- who sent the last Begin of these frames, where one was sent
abbrev pub begun_by : Option (Option Owner) → Option Owner → Up → Option (Option Owner)
begun_by found owner (up.Begin settings) = Some owner
begun_by found owner _ = found

abbrev pub sent_begin : List Sent → Option (Option Owner)
sent_begin sents = fold (λ found sent. begun_by found sent.owner sent.frame) None sents

-- of those that were served
abbrev pub served_begin : List Handled → Option (Option Owner)
served_begin served = sent_begin (map (λ one. one.sent) served)

-- the acquisition before the last Begin, as it is told
abbrev pub told_begin : ℕ → List SeenLink → Option (Option Acquired)
told_begin number told = option_map_or (λ one. option_map (λ turn. turn.acquired) one.turn)
    (link_of number told) None

-- It is a step of the request that sent the Begin.
pub data Begun (clients : List Client) : Option (Option Acquired) → Option (Option Owner)
    → Type 0 where
  NotBegun : Begun clients None None
  HasBegun : (owner : Owner) (acquired : Acquired) → IsStepOf clients owner acquired
      → Begun clients (Some (Some acquired)) (Some (Some owner))

-- so it is of a turn, beside what its session had served
abbrev pub TurnBegun : List Client → Turn → List Handled → Type 0
TurnBegun clients turn served = Begun clients (Some turn.acquired) (served_begin served)

pub record TellsOwners (t : Traced) (notes : List Note) (items : List Served) : Type 0 where
  pub sessions : (number : ℕ) → Tied t.machine.clients (said_at number t.machine.links)
      (last_acquired number (steps_told notes items))
  pub current : (number : ℕ) → Begun t.machine.clients
      (told_begin number (seen_told notes items).links)
      (served_begin (served_in (link_at t.machine.links number)))
  pub over : WereTurns (TurnBegun t.machine.clients) t.machine.links (seen_told notes items).over

-- wherever a run has come to
abbrev pub RunsTellOwners : Type 0
RunsTellOwners =
    (document : Document) (events : List Event) (notes : List Note) (items : List Served)
    (seen : ServerSeen) (t : Traced)
    → IsTrue (all_requests_right document) → Reached document events notes items seen t
    → TellsOwners t notes items

-- WHOLE RUNS --------------------------------------------------------------------------------------

-- A turn is of a request that has the step by which its session was acquired, and it is right for
-- it once this is over.
pub record IsOwned (clients : List Client) (turn : Turn) : Type 0 where
  pub acquired : Acquired
  pub has : turn.acquired ≡ Some acquired
  pub owner : Owner
  pub did : IsStepOf clients owner acquired
  pub right : (own : Client) (one : Past) → client_at clients owner.client ≡ Some own
      → slice_get own.past owner.place ≡ Some one → IsTrue (is_turn_right (submission_of one) turn)

pub data AreOwned (clients : List Client) : List Turn → Type 0 where
  NoneOwned : AreOwned clients []
  OneOwned : (turn : Turn) (more : List Turn) → IsOwned clients turn → AreOwned clients more
      → AreOwned clients (turn ∷ more)

-- all that the report of a whole run tells
abbrev pub WholeRunsOwnTurns : Type 0
WholeRunsOwnTurns =
    (document : Document) (notes : List Note) (items : List Served) (seen : ServerSeen) (t : Traced)
    → IsTrue (all_requests_right document) → IsRun document notes items seen t
    → AreOwned t.machine.clients (turns_seen (seen_told notes items))
