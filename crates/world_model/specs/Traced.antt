-- What the invariant speaks of: a state of the machine, the service's journal, and what the proof
-- remembers beside them.
use Rattle.std.specs.Prelude.{ℕ, ◌+◌, Bool, true, false, List, [], ◌∷◌, ◌++◌, map, Option, Some, None}
use Rattle.svc_values.specs.declared.draw.Draw.{Draw}
use Rattle.svc_values.specs.declared.entry.Ltxid.{Ltxid}
use Rattle.svc_values.specs.declared.entry.Entry.{Entry}
use Rattle.svc_values.specs.declared.entry.SessionId.{SessionId}
use Rattle.outage_schedule.specs.declared.document.Request.{Request}
use Rattle.outage_schedule.specs.declared.request.RequestReport.{RequestReport}
use Rattle.client_model.specs.meaning.Terms.{Phase, Idle}
use Rattle.world_model.specs.meaning.Frames.{Owner}
use Rattle.world_model.specs.meaning.Settings.{Setting}
use Rattle.world_model.specs.meaning.Clients.{Step, Doing, Past, Client}
use Rattle.run_clauses.specs.meaning.Reports.{report_of}
use Rattle.world_model.specs.meaning.Machines.{Machine}

-- The machine; J, of which so many are the image's; B, the image's blocks included; the sessions of
-- `outside`, and the values that these drew.
pub record Traced : Type 0 where
  pub setting : Setting
  pub machine : Machine
  pub entries : List Entry
  pub image : ℕ
  pub blocked : List Ltxid
  pub outside : List SessionId
  pub outside_draws : List Draw

-- A request that was submitted: in course, or over. Where it is over, its phase is Idle and it has
-- no connection.
pub record Course : Type 0 where
  pub owner : Owner
  pub request : Request
  pub steps : List Step
  pub phase : Phase
  pub connection : Option ℕ
  pub is_over : Bool
  pub report : RequestReport

abbrev pub course_over : ℕ → ℕ → Past → Course
course_over client place past = record {
  owner = record { client = client; place = place };
  request = past.request;
  steps = past.steps;
  phase = Idle;
  connection = None;
  is_over = true;
  report = past.report;
}

abbrev pub course_now : Setting → ℕ → ℕ → Doing → Course
course_now setting client place doing = record {
  owner = record { client = client; place = place };
  request = doing.request;
  steps = doing.steps;
  phase = doing.talk.phase;
  connection = doing.connection;
  is_over = false;
  report = report_of setting.terms doing.request (map (λ step. step.done) doing.steps);
}

-- the requests that are over, the first at this place, and then the one in course
abbrev pub courses_from : Setting → ℕ → ℕ → List Past → Option Doing → List Course
courses_from setting client place [] None = []
courses_from setting client place [] (Some doing) = course_now setting client place doing ∷ []
courses_from setting client place (past ∷ others) now =
    course_over client place past ∷ courses_from setting client (place + 1) others now

abbrev pub courses_of_clients : Setting → ℕ → List Client → List Course
courses_of_clients setting number [] = []
courses_of_clients setting number (client ∷ clients) =
    courses_from setting number 0 client.past client.now
    ++ courses_of_clients setting (number + 1) clients

abbrev pub courses_of : Traced → List Course
courses_of t = courses_of_clients t.setting 1 t.machine.clients
