-- What is served, from the parts of a frame to the whole.
use Rattle.std.proofs.Common.{ℕ, List, [], ◌∷◌, ◌++◌, refl, sym, ◌∙◌, ap, arith}
use Rattle.std.specs.Prelude.{Option, Result, Ok, Err}
use Rattle.disk_model.specs.Disk.{DiskState}
use Rattle.svc_values.specs.declared.entry.Ltxid.{Ltxid}
use Rattle.svc_values.specs.declared.frame.Down.{Down}
use Rattle.ltxid_book.specs.Sessions.{sessions_in}
use Rattle.commit_log.specs.declared.records.Record.{Record}
use Rattle.stmt_meaning.specs.meaning.Reads.{Read}
use Rattle.table_txn.specs.Readings.{AreReadings}
use Rattle.server_model.specs.Core.{Core as Plain}
use Rattle.server_model.specs.meaning.Outcomes.{Telling, Stopped}
use Rattle.server_model.specs.Sessions.{Sess, ended}
use Rattle.server_session.specs.declared.shared.Core.{Core}
use Rattle.server_model.specs.declared.fault.ServeFault.{ServeFault}
use Rattle.server_model.specs.declared.fault.ServeFault.TheVariants as fault
use Rattle.server_session.specs.Fits.{Fits, Belongs}
use Rattle.server_session.specs.Plain.{IsPlain}
use Rattle.server_session.specs.SeenSession.{SeenSession, sess_of}
use Rattle.server_session.specs.Serving.{Quietly, HasServed, HasLacked, Serves, StopsAtFronts, told_of}
use Rattle.server_session.proofs.Gaining.{gained_none}

-- a session belongs to its core still, where its identifier stays
pub belongs_still : (core : Core) (old new : SeenSession) (step : Plain → Sess → Plain → Sess → Telling → Type 0) (told : Telling) → Quietly step told old new → Belongs core old → Belongs core new
belongs_still core old new step told quiet belongs = record {
  incarnation = ap (λ (x : Ltxid). x.incarnation) quiet.ltxid ∙ belongs.incarnation;
  number = ap (λ (x : Ltxid). x.number) quiet.ltxid ∙ belongs.number ∙ ap (λ (x : Ltxid). ((sessions_in core.book).state x.incarnation x.session).next) (sym quiet.ltxid);
  writes = quiet.fitting core.tables.schemas belongs.writes;
  calls = quiet.made belongs.calls;
  holds = quiet.holds core belongs.holds;
}

-- a step that touches no store
pub serves_quietly : (step : Plain → Sess → Plain → Sess → Telling → Type 0) (most : ℕ) (told : Telling) (old new : SeenSession) (core : Core) (disk : DiskState)
    → Quietly step told old new → Fits core disk → Belongs core old → HasServed step most told old core disk new core disk
serves_quietly step most told old new core disk quiet fits belongs = record {
  records = [];
  few = omega arith;
  gained = gained_none disk;
  fits = fits;
  belongs = belongs_still core old new step told quiet belongs;
  others = λ other apart stays. stays;
  steps = λ plain reads is noted. (plain, (is, quiet.steps plain reads noted));
  fronts = λ some. absurd (some refl);
}

-- what holds of each part's step holds of the whole's

stops_as : (step wider : Plain → Sess → Plain → Sess → Telling → Type 0) (old : SeenSession) (core : Core) (disk : DiskState) (records : List Record)
    → ((plain : Plain) (reads : List Read) → IsPlain plain core disk → AreReadings old.txn.readings reads → (after : Plain) (t : Sess) (told : Telling) → step plain (sess_of old reads) after t told → wider plain (sess_of old reads) after t told)
    → StopsAtFronts step old core disk records → StopsAtFronts wider old core disk records
stops_as step wider old core disk records widens stops plain reads is noted image grown =
    let next = stops plain reads is noted image grown in
    (next.0, (next.1.0, widens plain reads is noted next.0 (ended (sess_of old reads)) Stopped next.1.1))

pub serves_as : (step wider : Plain → Sess → Plain → Sess → Telling → Type 0) (most : ℕ) (result : Result (Option Down) ServeFault) (old : SeenSession) (core : Core) (disk : DiskState) (new : SeenSession) (later : Core) (end : DiskState)
    → ((plain : Plain) (reads : List Read) → IsPlain plain core disk → AreReadings old.txn.readings reads → (after : Plain) (t : Sess) (told : Telling) → step plain (sess_of old reads) after t told → wider plain (sess_of old reads) after t told)
    → Serves step most result old core disk new later end → Serves wider most result old core disk new later end
serves_as step wider most (Ok told) old core disk new later end widens served = record {
  records = served.records;
  few = served.few;
  gained = served.gained;
  fits = served.fits;
  belongs = served.belongs;
  others = served.others;
  steps = λ plain reads is noted.
      let next = served.steps plain reads is noted in
      let steps = next.1.1 in
      (next.0, (next.1.0, record { reads = steps.reads; noted = steps.noted; steps = widens plain reads is noted next.0 (sess_of new steps.reads) (told_of told) steps.steps }));
  fronts = λ some. stops_as step wider old core disk served.records widens (served.fronts some);
}
serves_as step wider most (Err fault.NoMemory) old core disk new later end widens served = served
serves_as step wider most (Err fault.Stopped) old core disk new later end widens served = (
  record {
    records = served.0.records;
    last = served.0.last;
    few = served.0.few;
    halted = served.0.halted;
    steps = stops_as step wider old core disk (served.0.records ++ served.0.last ∷ []) widens served.0.steps;
  },
  served.1,
)

-- what is said of a fault is said whatever became of the session
pub serves_fault : (step : Plain → Sess → Plain → Sess → Telling → Type 0) (most : ℕ) (error : ServeFault) (old : SeenSession) (core : Core) (disk : DiskState) (new other : SeenSession) (later : Core) (end : DiskState)
    → Serves step most (Err error) old core disk new later end → Serves step most (Err error) old core disk other later end
serves_fault step most fault.NoMemory old core disk new other later end served = served
serves_fault step most fault.Stopped old core disk new other later end served = served

-- nothing was stored
pub lacked_nothing : (most : ℕ) (disk : DiskState) → HasLacked most disk disk
lacked_nothing most disk = record { records = []; few = omega arith; moments = (gained_none disk).moments; faults = refl }
