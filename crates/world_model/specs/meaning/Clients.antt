-- Clients, each with its requests.
use Rattle.std.specs.Prelude.{ℕ, zero, suc, Bool, ◌||◌, List, [], ◌∷◌, ◌++◌, map, length, get_or, slice_get, slice_set, Option, Some, None, is_some, option_map, option_and_then}
use Rattle.std.specs.Option.{option_or, option_map_or}
use Rattle.outage_schedule.specs.declared.document.Request.{Request}
use Rattle.outage_schedule.specs.declared.request.RequestReport.{RequestReport}
use Rattle.client_model.specs.declared.input.Input.{Input}
use Rattle.client_model.specs.declared.input.Input.TheVariants.{Start}
use Rattle.client_model.specs.declared.act.Hold.{Hold}
use Rattle.client_model.specs.declared.act.Hold.TheVariants.{Keep}
use Rattle.client_model.specs.meaning.Terms.{Terms, Talk, requested}
use Rattle.client_model.specs.meaning.Conversation.{Done, done_at, talk_at}
use Rattle.run_clauses.specs.meaning.Copies.{next_of}
use Rattle.world_model.specs.meaning.Settings.{Setting}
use Rattle.run_clauses.specs.meaning.Reports.{report_of}

-- one step of a request, and its event
pub record Step : Type 0 where
  pub event : ℕ
  pub done : Done

-- A request in course: where its conversation stands, the connection that it has, and all its steps
-- in order.
pub record Doing : Type 0 where
  pub request : Request
  pub talk : Talk
  pub connection : Option ℕ
  pub steps : List Step

-- a request that is over, and its report
pub record Past : Type 0 where
  pub request : Request
  pub steps : List Step
  pub report : RequestReport

-- A client: the requests that it submitted and that are over, the one that it submits next, if one
-- is left, and the one in course.
pub record Client : Type 0 where
  pub past : List Past
  pub next : Option Request
  pub now : Option Doing

abbrev pub reports_of : List Past → List RequestReport
reports_of past = map (λ one. one.report) past

-- with these requests over, and none in course
abbrev pub resting : List Request → List Past → Client
resting script past = record { past = past; next = next_of script (reports_of past); now = None }

-- clients are numbered from 1
abbrev pub client_at : List Client → ℕ → Option Client
client_at clients zero = None
client_at clients (suc index) = slice_get clients index

abbrev pub with_client : List Client → ℕ → Client → List Client
with_client clients zero client = clients
with_client clients (suc index) client = slice_set clients index client

abbrev pub script_at : Setting → ℕ → List Request
script_at setting zero = []
script_at setting (suc index) = get_or setting.scripts index []

abbrev pub is_unfinished : Client → Bool
is_unfinished client = is_some client.now || is_some client.next

-- HEARING -----------------------------------------------------------------------------------------

-- what is done at an input of this event and tick
abbrev pub step_at : Terms → ℕ → ℕ → Doing → Input → Step
step_at terms event tick doing input = record {
  event = event;
  done = done_at terms doing.talk (input, tick);
}

abbrev pub heard : Terms → ℕ → ℕ → Doing → Input → Doing
heard terms event tick doing input = record doing {
  talk = talk_at terms doing.talk (input, tick);
  steps = doing.steps ++ step_at terms event tick doing input ∷ [];
}

-- a request that begins now
abbrev pub begun : Terms → ℕ → ℕ → Request → Doing
begun terms event tick request = heard terms event tick (record {
  request = request;
  talk = requested request.settings request.calls;
  connection = None;
  steps = [];
}) Start

-- the request in course, or else the next one, which begins now
abbrev pub doing_of : Terms → ℕ → ℕ → Client → Option Doing
doing_of terms event tick client = option_or client.now
    (option_map (begun terms event tick) client.next)

abbrev pub past_of : Terms → Doing → Past
past_of terms doing = record {
  request = doing.request;
  steps = doing.steps;
  report = report_of terms doing.request (map (λ step. step.done) doing.steps);
}

-- The request goes on, or it is over.
abbrev pub after_hold : Setting → ℕ → Client → Doing → Hold → Client
after_hold setting number client doing Keep = record client { now = Some doing }
after_hold setting number client doing _ =
    resting (script_at setting number) (client.past ++ past_of setting.terms doing ∷ [])

abbrev pub after_step : Setting → List Client → ℕ → Doing → Hold → List Client
after_step setting clients number doing hold =
    option_map_or (λ client. with_client clients number
    (after_hold setting number client doing hold)) (client_at clients number) clients

-- how many requests the client submitted before the one in course
abbrev pub place_of : List Client → ℕ → ℕ
place_of clients number = option_map_or (λ client. length client.past) (client_at clients number) 0

abbrev pub doing_at : List Client → ℕ → Option Doing
doing_at clients number = option_and_then (λ client. client.now) (client_at clients number)
