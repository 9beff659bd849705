-- What one draw of a call does to the source, to the draws that are kept for a replay, and to the
-- log.
use Rattle.std.specs.Prelude.{◌≡◌, ◌≢◌, ◌≤◌, ℕ, ℤ, true, IsTrue, IsFalse, List, [], ◌∷◌, ◌++◌, length, map, take, Some, Result, Ok, Err}
use Rattle.disk_model.specs.Disk.{DiskState, Meanwhile}
use Rattle.svc_values.specs.declared.draw.Draw.{Draw}
use Rattle.svc_values.specs.declared.draw.DrawKind.{DrawKind}
use Rattle.svc_values.specs.declared.draw.DrawKind.TheVariants as kind
use Rattle.svc_values.specs.meaning.Draws.{is_of_kind}
use Rattle.commit_log.specs.declared.journal.Journal.{Journal}
use Rattle.commit_log.specs.declared.journal.Reservation.{Reservation}
use Rattle.commit_log.specs.declared.log.Log.{Log}
use Rattle.commit_log.specs.declared.records.Record.{Record}
use Rattle.commit_log.specs.declared.records.Record.TheVariants as kept
use Rattle.commit_log.specs.Growth.{IsGrown}
use Rattle.commit_log.specs.meaning.Journals.{journal_of}
use Rattle.commit_log.specs.Logs.{is_live, CanLog}
use Rattle.mutable_values.specs.declared.source.Drawn.TheVariants as drawn
use Rattle.mutable_values.specs.Sources.{Opening, are_sequences, draw_of, reserved_to}
use Rattle.stmt_meaning.specs.Asked.{kind_drawn, sequences_drawn}
use Rattle.stmt_meaning.specs.Drawing.{Drew, Gave, Lacked, Halted}
use Rattle.server_model.specs.Draws.{DrawsAll, HaltsAt}
use Rattle.server_model.specs.declared.fault.ServeFault.{ServeFault}
use Rattle.server_model.specs.declared.fault.ServeFault.TheVariants as fault
use Rattle.server_session.specs.Adding.{HasGained, HasHalted}
use Rattle.server_session.specs.Fits.{IsSourceOf}
use Rattle.server_session.specs.Leaving.{StillEnds}

-- a source, the draws that are left of the kept ones, a log and its disk
pub record AtDesk : Type 0 where
  pub opening : Opening
  pub left : List Draw
  pub log : Log
  pub disk : DiskState

-- The log goes on with its disk, and the source is that of its journal. No two of its sequences
-- have one name, and none gave a value past its reservation.
pub record IsPrepared (opening : Opening) (log : Log) (disk : DiskState) : Type 0 where
  pub ready : CanLog log disk
  pub journal : Journal
  pub reads : journal_of disk.now.seen ≡ Ok journal
  pub source : IsSourceOf opening journal
  pub sequences : IsTrue (are_sequences opening.sequences)

-- so it is, unless the log was stopped
abbrev pub IsReady : Opening → Log → DiskState → Type 0
IsReady opening log disk = IsTrue (is_live log) → IsPrepared opening log disk

abbrev pub reservation_of : List ℕ → ℤ → Reservation
reservation_of name upto = record { name = name; upto = upto }

abbrev pub reserving : List Reservation → List Record
reserving reservations = map (λ one. kept.Reserved one) reservations

-- A reservation is stored, and the source was told of it.
pub record HasReserved (name : List ℕ) (upto : ℤ) (opening : Opening) (disk : DiskState)
    (later : Opening) (log : Log) (end : DiskState) : Type 0 where
  pub told : later ≡ reserved_to opening name upto
  pub gained : HasGained (kept.Reserved (reservation_of name upto) ∷ []) disk end
  pub prepared : IsPrepared later log end

-- There was no memory for it.
pub record HasLackedReservation (opening : Opening) (disk : DiskState) (later : Opening) (log : Log)
    (end : DiskState) (name : List ℕ) (upto : ℤ) : Type 0 where
  pub same : later ≡ opening
  pub moments : Meanwhile disk end (IsGrown disk.now.seen (kept.Reserved (reservation_of name upto)
      ∷ []))
  pub faults : end.faults ≡ disk.faults
  pub prepared : IsPrepared later log end

-- It was stopped.
pub record HasHaltedReservation (name : List ℕ) (upto : ℤ) (opening : Opening) (disk : DiskState)
    (later : Opening) (log : Log) (end : DiskState) : Type 0 where
  pub same : later ≡ opening
  pub halted : HasHalted [] (kept.Reserved (reservation_of name upto)) disk end
  pub dead : IsFalse (is_live log)
  pub ends : StillEnds log disk end

abbrev pub Reserves : List ℕ → ℤ → Result (Unit {0}) ServeFault → Opening → DiskState → Opening
    → Log → DiskState → Type 0
Reserves name upto (Ok done) opening disk later log end =
    HasReserved name upto opening disk later log end
Reserves name upto (Err fault.NoMemory) opening disk later log end =
    HasLackedReservation opening disk later log end name upto
Reserves name upto (Err fault.Stopped) opening disk later log end =
    HasHaltedReservation name upto opening disk later log end

-- the journal with these reservations behind its own
abbrev pub with_reserved : Journal → List Reservation → Journal
with_reserved journal more = record journal { reserved = journal.reserved ++ more }

-- The store may have stopped among these draws with just these reservations: some draws were given,
-- and the next one asked for a reservation that is the last of them, or was lost behind them.
pub record HaltsAtFront (now : ℕ) (before : AtDesk) (given : List Draw)
    (stored : List Reservation) : Type 0 where
  pub front : List Draw
  pub next : Draw
  pub back : List Draw
  pub split : given ≡ front ++ next ∷ back
  pub between : Opening
  pub left : List Draw
  pub draws : DrawsAll now before.opening before.left front between left
  pub opening : Opening
  pub halts : HaltsAt now left (kind_drawn next) between opening
  pub source : (journal : Journal) → IsSourceOf before.opening journal
      → IsSourceOf opening (with_reserved journal stored)

-- These were given, one after the other, with the reservations that had to be stored first: at most
-- one for each value of a sequence. The source goes on beside any journal that it was the source
-- of, and the store may have stopped behind any of the reservations, or before all.
pub record HasDealt (now : ℕ) (before : AtDesk) (given : List Draw) (after : AtDesk) : Type 0 where
  pub reservations : List Reservation
  pub few : length reservations ≤ sequences_drawn given
  pub gained : HasGained (reserving reservations) before.disk after.disk
  pub draws : DrawsAll now before.opening before.left given after.opening after.left
  pub moved : (journal : Journal) → IsSourceOf before.opening journal
      → IsSourceOf after.opening (with_reserved journal reservations)
  pub halts : (count : ℕ) → count ≤ length reservations → reservations ≢ []
      → HaltsAtFront now before given (take count reservations)
  pub prepared : IsPrepared after.opening after.log after.disk

-- The store was stopped at the reservation that a value of a sequence asked for. The source is as
-- it was.
pub record HasHaltedAt (now : ℕ) (before : AtDesk) (asked : DrawKind)
    (after : AtDesk) : Type 0 where
  pub name : List ℕ
  pub upto : ℤ
  pub is : asked ≡ kind.Seq name
  pub wanted : draw_of before.opening before.left asked now ≡ Some (record {
    answer = drawn.Reserve name upto;
    opening = before.opening;
    kept = before.left;
  })
  pub halted : HasHalted [] (kept.Reserved (reservation_of name upto)) before.disk after.disk
  pub same : after.opening ≡ before.opening
  pub ends : StillEnds after.log before.disk after.disk

-- There was no memory, with a reservation stored before it or not. No fault of the disk is told so.
pub record HasLackedAt (before after : AtDesk) : Type 0 where
  pub reservations : List Reservation
  pub few : length reservations ≤ 1
  pub moments : Meanwhile before.disk after.disk
      (IsGrown before.disk.now.seen (reserving reservations))
  pub faults : after.disk.faults ≡ before.disk.faults

-- what a draw came to; a log that was stopped before it tells nothing
abbrev pub Deals : ℕ → AtDesk → Drew → AtDesk → Type 0
Deals now before (Gave given) after = HasDealt now before (given ∷ []) after
Deals now before (Lacked asked) after = HasLackedAt before after
Deals now before (Halted asked) after = IsTrue (is_live before.log)
    → HasHaltedAt now before asked after

-- the same of an answer
abbrev pub DealsAs : ℕ → AtDesk → DrawKind → Result Draw ServeFault → AtDesk → Type 0
DealsAs now before asked (Ok given) after = (is_of_kind asked given ≡ true)
    × Deals now before (Gave given) after
DealsAs now before asked (Err fault.NoMemory) after = Deals now before (Lacked asked) after
DealsAs now before asked (Err fault.Stopped) after = Deals now before (Halted asked) after
