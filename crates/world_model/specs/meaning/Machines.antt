-- The state of a run.
use Rattle.std.specs.Prelude.{ℕ, ◌+◌, Bool, true, List, [], map, if◌then◌else◌}
use Rattle.svc_values.specs.declared.entry.Ltxid.{Ltxid}
use Rattle.pool_core.specs.meaning.Slots.{Slots, unused}
use Rattle.commit_log.specs.declared.journal.Journal.{Journal}
use Rattle.svc_values.specs.declared.entry.SessionId.{SessionId}
use Rattle.outage_schedule.specs.declared.document.ServiceOf.{ServiceOf}
use Rattle.outage_schedule.specs.declared.document.Document.{Document}
use Rattle.run_clauses.specs.meaning.Before.{journal_before}
use Rattle.world_model.specs.meaning.Links.{Link}
use Rattle.world_model.specs.meaning.Clients.{Client, resting}

-- The server: the incarnation of its last opening; how many openings were stopped since; how many
-- sessions the incarnation has; how many device calls a record takes; the identifiers that were
-- answered uncommitted, with those of the image; and those that a crashed item carries, of which a
-- block may stand or not.
pub record Server : Type 0 where
  pub is_up : Bool
  pub incarnation : ℕ
  pub stopped : ℕ
  pub sessions : ℕ
  pub per_record : ℕ
  pub blocked : List Ltxid
  pub doubtful : List Ltxid

-- The state: the number of the last event, the tick, and the parts.
pub record Machine : Type 0 where
  pub event : ℕ
  pub tick : ℕ
  pub server : Server
  pub links : List Link
  pub clients : List Client
  pub pool : Slots

-- Four device calls in each store.
abbrev pub per_record_of : ServiceOf → ℕ
per_record_of service = if service.standby then 8 else 4

-- after the opening before event 1
abbrev pub first_server : ServiceOf → Journal → Server
first_server service journal = record {
  is_up = true;
  incarnation = journal.incarnation + 1;
  stopped = 0;
  sessions = 0;
  per_record = per_record_of service;
  blocked = journal.blocked;
  doubtful = [];
}

abbrev pub start_of : Document → Machine
start_of document = record {
  event = 0;
  tick = 0;
  server = first_server document.service (journal_before document);
  links = [];
  clients = map (λ client. resting client.requests []) document.clients;
  pool = unused document.service.pool.max;
}

-- the session that is made next
abbrev pub next_session : Server → SessionId
next_session server = record { incarnation = server.incarnation; session = server.sessions + 1 }
