-- What a run begins with, and where it stands before its first event.
use Rattle.std.specs.Prelude.{◌≡◌, ◌≤◌, ◌^◌, Bool, true, IsTrue, List, []}
use Rattle.request_bounds.specs.meaning.Rules.{Rules}
use Rattle.outage_schedule.specs.declared.document.Client.{Client as Script}
use Rattle.outage_schedule.specs.declared.document.Document.{Document}
use Rattle.outage_schedule.specs.declared.document.ServiceOf.{ServiceOf}
use Rattle.run_clauses.specs.meaning.Before.{journal_before, was_opened}
use Rattle.run_clauses.specs.meaning.ServiceBase.{service_base}
use Rattle.server_model.specs.Base.{IsSound}
use Rattle.server_model.specs.Seen.{Seen, IsNew}
use Rattle.world_model.specs.Forgets.{first_of}
use Rattle.world_model.specs.meaning.Machines.{per_record_of}
use Rattle.world_model.specs.Reached.{Reached, traced_start}
use Rattle.world_model.specs.records.Ready.{all_requests_right}
use Rattle.world_model.specs.meaning.Settings.{rules_of}
use Rattle.world_run.specs.Running.{Parts, Stands}

-- The document has this service and these scripts. The service may be seen as a new one whose store
-- is what stands before event 1; it is stopped by nothing but what a run asks for, and was opened
-- before or not.
pub record IsOf (sees : Seen → Type 0) (rules : Rules) (of : ServiceOf) (scripts : List Script)
    (opened : Bool) (document : Document) (seen : Seen) : Type 0 where
  pub service : document.service ≡ of
  pub clients : document.clients ≡ scripts
  pub calls : IsTrue (all_requests_right document)
  pub rules_are : rules ≡ rules_of of.failover of.consistency
  pub opened_is : opened ≡ was_opened document
  pub seen_so : sees seen
  pub new : IsNew seen
  pub quiet : seen.state.is_quiet ≡ true
  pub per_record : seen.state.per_record ≡ per_record_of of
  pub start : seen.start ≡ service_base document
  pub sound : IsSound (service_base document)
  pub room : (journal_before document).incarnation ≤ 2 ^ 62

-- a document and a service that are so
abbrev pub IsOfSome : (Seen → Type 0) → Rules → ServiceOf → List Script → Bool → Type 0
IsOfSome sees rules of scripts opened = (document : Document)
    × ((seen : Seen) × IsOf sees rules of scripts opened document seen)

-- the limits that a service keeps to here
pub record HasRoom (of : ServiceOf) : Type 0 where
  pub slots : (1 ≤ of.pool.max) × (of.pool.max ≤ 64)
  pub retention : of.retention ≤ 2 ^ 62

-- the run of the document stands before its first event
pub record StandsAtStart (S R : Type 0) (sees : S → Seen → Type 0) (rules : R → Rules)
    (scripts : List Script) (document : Document) (parts : Parts S R) : Type 0 where
  pub seen : Seen
  pub reached : Reached document [] [] [] seen (traced_start document)
  pub stands : Stands S R sees rules scripts document.service.retention
      (first_of document) parts seen (traced_start document)
  pub none : (parts.notes ≡ []) × (parts.served ≡ [])
