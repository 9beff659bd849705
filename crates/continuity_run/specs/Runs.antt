-- The run of a document: what it is made of, and what it leaves.
use Rattle.std.specs.Prelude.{◌≡◌, ℕ, Bool, List}
use Rattle.request_bounds.specs.meaning.Rules.{Rules}
use Rattle.outage_schedule.specs.declared.document.Client.{Client as Script}
use Rattle.outage_schedule.specs.declared.document.Document.{Document}
use Rattle.outage_schedule.specs.declared.document.ServiceOf.{ServiceOf}
use Rattle.outage_schedule.specs.declared.event.Event.{Event}
use Rattle.outage_schedule.specs.declared.report.Report.{Report}
use Rattle.doc_reader.specs.Keeping.{IsDocument}
use Rattle.server_model.specs.Seen.{Seen}
use Rattle.service_calls.specs.Kept.{HaveOneBase}
use Rattle.world_model.specs.meaning.Followed.{transcripts_of}
use Rattle.world_model.specs.Reached.{IsRun}
use Rattle.world_model.specs.Traced.{Traced}
use Rattle.world_core.specs.declared.traffic.Traffic.{Traffic}
use Rattle.world_core.specs.Making.{IsAt}
use Rattle.world_run.specs.Starting.{IsOf}
use Rattle.world_run.specs.declared.world.Ran.{Ran}
use Rattle.continuity_run.specs.declared.store.Before.{Before}
use Rattle.continuity_run.specs.Reading.{IsReadOff}

-- The document is one that was read, with this schedule, and its run begins with this service under
-- these rules.
pub record IsRunOf (sees : Seen → Type 0) (rules : Rules) (of : ServiceOf) (scripts : List Script)
    (schedule : List Event) (opened : Bool) (document : Document) : Type 0 where
  pub kept : IsDocument document
  pub schedule_is : document.schedule ≡ schedule
  pub seen : Seen
  pub begins : IsOf sees rules of scripts opened document seen

-- there is such a document
abbrev pub IsRunOfSome : (Seen → Type 0) → Rules → ServiceOf → List Script → List Event → Bool
    → Type 0
IsRunOfSome sees rules of scripts schedule opened = (document : Document)
    × IsRunOf sees rules of scripts schedule opened document

-- The run of the document is over: its events, and those of the finish behind them, led to these
-- notes and to what was served, and its clients were shown what the machine's were. The service may
-- be seen as it stands then.
pub record HasRun {S : Type 0} (sees : S → Seen → Type 0) (document : Document)
    (ran : Ran S) : Type 0 where
  pub seen : Seen
  pub traced : Traced
  pub traffic : Traffic
  pub place : IsAt (sees ran.service) traffic seen traced
  pub run : IsRun document ran.notes ran.served seen traced
  pub clients : ran.clients ≡ transcripts_of traced.machine

-- The report was read off the store of a service over which the document has run. The store began
-- with these bytes, and has their base.
pub record IsReportOf {S : Type 0} (sees : S → Seen → Type 0) (bytes : S → List ℕ) (first : List ℕ)
    (before : Before) (print_image : Bool) (document : Document) (report : Report) : Type 0 where
  pub ran : Ran S
  pub has : HasRun sees document ran
  pub off : IsReadOff (bytes ran.service) before print_image ran report
  pub base : HaveOneBase first (bytes ran.service)
