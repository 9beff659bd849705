-- Frames that a session serves one after the other, apart from the connections. Where there was no
-- memory, the disk has not failed since the first of them.
use Rattle.std.specs.Prelude.{◌≡◌, ◌+◌, ℕ, false, IsTrue, List, [], ◌∷◌, ◌++◌, map, Option, Some, None, Result, Ok, Err}
use Rattle.disk_model.specs.Disk.{DiskState}
use Rattle.svc_values.specs.declared.call.Call.{Call}
use Rattle.svc_values.specs.declared.entry.Ltxid.{Ltxid}
use Rattle.svc_values.specs.declared.entry.SessionId.{SessionId}
use Rattle.svc_values.specs.declared.frame.Down.{Down}
use Rattle.svc_values.specs.declared.frame.Down.TheVariants as down
use Rattle.svc_values.specs.declared.frame.Up.{Up}
use Rattle.svc_values.specs.declared.frame.Up.TheVariants as up
use Rattle.svc_values.specs.meaning.Calls.{sequences_in}
use Rattle.svc_values.specs.meaning.Identifiers.{session_of}
use Rattle.outage_schedule.specs.declared.note.NoteRun.{NoteRun}
use Rattle.stmt_meaning.specs.meaning.Reads.{Read}
use Rattle.table_txn.specs.Readings.{AreReadings}
use Rattle.server_model.specs.declared.fault.ServeFault.{ServeFault}
use Rattle.server_model.specs.declared.fault.ServeFault.TheVariants as fault
use Rattle.server_model.specs.meaning.Outcomes.{Telling, Silent, Says}
use Rattle.server_model.specs.Runs.{Happened, Served, is_answered}
use Rattle.server_model.specs.ServiceCalls.{RunsAre}
use Rattle.server_model.specs.Sessions.{Begun}
use Rattle.server_session.specs.declared.shared.Core.{Core}
use Rattle.server_session.specs.Fits.{Fits, Belongs}
use Rattle.server_session.specs.Leaving.{StaysTrue}
use Rattle.server_session.specs.SeenSession.{SeenSession as Session}
use Rattle.server_session.specs.Serving.{HasServed, HasStopped, served_as, told_of}
use Rattle.service_calls.specs.Answers.{run_of}

-- a frame, and what was told
pub record Item : Type 0 where
  pub frame : Up
  pub told : Telling

abbrev pub item : Up → Telling → Item
item frame told = record { frame = frame; told = told }

-- these were served and answered
pub data Through (now : ℕ) (session : Session) (core : Core) (disk : DiskState) : List Item
    → Session → Core → DiskState → Type 0 where
  Still : Through now session core disk [] session core disk
  Then : (items : List Item) (mid : Session) (between : Core) (at : DiskState) (frame : Up)
      (told : Telling) (new : Session) (later : Core) (end : DiskState)
      → Through now session core disk items mid between at
      → HasServed (served_as frame now) (1 + sequences_in frame) told mid between at new later end
      → IsTrue (is_answered told) → Through now session core disk (items ++ item frame told
      ∷ []) new later end

-- what of them stands in a history
abbrev pub happened_in : SessionId → ℕ → List Item → List Happened
happened_in session now items = map (λ one. Served session now one.frame one.told) items

-- The core fits its disk, and the session its core.
pub record IsGoing (core : Core) (disk : DiskState) (session : Session) : Type 0 where
  pub fits : Fits core disk
  pub belongs : Belongs core session
  pub reads : List Read
  pub noted : AreReadings session.txn.readings reads

-- some were answered, and in the one behind them the disk failed
pub record HasHaltedIn (now : ℕ) (session : Session) (core : Core)
    (disk end : DiskState) : Type 0 where
  pub items : List Item
  pub mid : Session
  pub between : Core
  pub at : DiskState
  pub through : Through now session core disk items mid between at
  pub frame : Up
  pub stopped : HasStopped (served_as frame now) (1 + sequences_in frame) mid between at end

-- ---- a request

abbrev pub begun_items : Ltxid → List Item
begun_items x = item up.Connect (Says (down.Hello x)) ∷ item (up.Begin []) Silent ∷ []

-- a request without settings was begun, which stores nothing
pub record HasBegun (now : ℕ) (old : Session) (core : Core) (disk : DiskState) (new : Session)
    (later : Core) (end : DiskState) : Type 0 where
  pub through : Through now old core disk (begun_items old.ltxid) new later end
  pub going : IsGoing later end new
  pub begun : new.life ≡ Begun
  pub same : end ≡ disk
  pub session : session_of new.ltxid ≡ session_of old.ltxid
  pub grants : later.grants ≡ core.grants

abbrev pub Begins : ℕ → Result (Unit {0}) ServeFault → Session → Core → DiskState → Session → Core
    → DiskState → Type 0
Begins now (Ok done) old core disk new later end = HasBegun now old core disk new later end
Begins now (Err fault.Stopped) old core disk new later end = ⊥
Begins now (Err fault.NoMemory) old core disk new later end = end.faults ≡ disk.faults

-- ---- its calls

abbrev pub call_frame : Call → Up
call_frame called = up.Call false [] called

-- what a reply tells of a call
abbrev pub run_in : Option Down → Option NoteRun
run_in (Some (down.Reply answers draws x)) = Some (record { answers = answers; draws = draws })
run_in _ = None

pub record HasRunOne (now : ℕ) (called : Call) (run : Option NoteRun) (old : Session) (core : Core)
    (disk : DiskState) (new : Session) (later : Core) (end : DiskState) : Type 0 where
  pub told : Option Down
  pub run_is : run ≡ run_in told
  pub served : HasServed (served_as (call_frame called) now) (1 + sequences_in (call_frame called))
      (told_of told) old core disk new later end

abbrev pub RunsOne : ℕ → Call → Result (Option NoteRun) ServeFault → Session → Core → DiskState
    → Session → Core → DiskState → Type 0
RunsOne now called (Ok run) old core disk new later end =
    HasRunOne now called run old core disk new later end
RunsOne now called (Err fault.Stopped) old core disk new later end =
    HasStopped (served_as (call_frame called) now) (1 + sequences_in (call_frame called)) old core
    disk end × StaysTrue core later end
RunsOne now called (Err fault.NoMemory) old core disk new later end = end.faults ≡ disk.faults

-- all of them, up to the first that was answered Blocked
pub record HasRunAll (now : ℕ) (session : SessionId) (calls : List Call) (runs : List NoteRun)
    (old : Session) (core : Core) (disk : DiskState) (new : Session) (later : Core)
    (end : DiskState) : Type 0 where
  pub items : List Item
  pub through : Through now old core disk items new later end
  pub are : RunsAre session now calls (map run_of runs) (happened_in session now items)

abbrev pub RunsAll : ℕ → SessionId → List Call → Result (List NoteRun) ServeFault → Session → Core
    → DiskState → Session → Core → DiskState → Type 0
RunsAll now session calls (Ok runs) old core disk new later end =
    HasRunAll now session calls runs old core disk new later end
RunsAll now session calls (Err fault.Stopped) old core disk new later end =
    HasHaltedIn now old core disk end × StaysTrue core later end
RunsAll now session calls (Err fault.NoMemory) old core disk new later end =
    end.faults ≡ disk.faults

-- a request was begun, and its calls were run
pub record HasRunFrom (now : ℕ) (calls : List Call) (runs : List NoteRun) (old : Session)
    (core : Core) (disk : DiskState) (new : Session) (later : Core) (end : DiskState) : Type 0 where
  pub mid : Session
  pub between : Core
  pub at : DiskState
  pub begun : HasBegun now old core disk mid between at
  pub ran : HasRunAll now (session_of mid.ltxid) calls runs mid between at new later end

-- a request was begun, and in one of its calls the disk failed
pub record HasHaltedFrom (now : ℕ) (old : Session) (core : Core)
    (disk end : DiskState) : Type 0 where
  pub mid : Session
  pub between : Core
  pub at : DiskState
  pub begun : HasBegun now old core disk mid between at
  pub halted : HasHaltedIn now mid between at end

abbrev pub RunsFrom : ℕ → List Call → Result (List NoteRun) ServeFault → Session → Core → DiskState
    → Session → Core → DiskState → Type 0
RunsFrom now calls (Ok runs) old core disk new later end =
    HasRunFrom now calls runs old core disk new later end
RunsFrom now calls (Err fault.Stopped) old core disk new later end =
    HasHaltedFrom now old core disk end × StaysTrue core later end
RunsFrom now calls (Err fault.NoMemory) old core disk new later end = end.faults ≡ disk.faults
