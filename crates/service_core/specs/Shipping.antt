-- What a second store asks of a service: what each call leaves of the service itself, whoever sees
-- it, the records that the second store lacks, and a service that is taken for stopped.
use Rattle.std.specs.Prelude.{◌≡◌, ◌+◌, ℕ, true, false, IsTrue, List, [], ◌++◌, length, Option, Some, None, is_some, Ok}
use Rattle.disk_model.specs.Moment.{MayLeave}
use Rattle.disk_model.specs.Disk.{DiskState, IsSettled, LoweredByLess, OnlyReads, with_fault}
use Rattle.commit_log.specs.declared.records.Record.{Record}
use Rattle.commit_log.specs.Growth.{HasAdded}
use Rattle.server_session.specs.Adding.{HasGained}
use Rattle.redo_store.specs.Records.{record_count}
use Rattle.redo_store.specs.Walk.{StandsBehind}
use Rattle.redo_store.specs.meaning.Records.{records_of}
use Rattle.service_core.specs.Within.{Within}

-- ---- what a call leaves

-- one call more was made on it
pub record CountsOne (old new : Within) : Type 0 where
  pub calls : new.notes.calls ≡ old.notes.calls + 1
  pub reads : new.notes.reads ≡ old.notes.reads
  pub live : new.notes.is_spent ≡ false
  pub grants : new.grants ≡ old.grants

-- a connection was made or ended
pub record Stays (old new : Within) : Type 0 where
  pub counts : CountsOne old new
  pub disk : new.disk ≡ old.disk
  pub settled : new.notes.is_settled ≡ old.notes.is_settled
  pub up : is_some new.core ≡ is_some old.core

-- a stop was set
pub record SetsStop (calls : Option ℕ) (old new : Within) : Type 0 where
  pub counts : CountsOne old new
  pub disk : new.disk ≡ record old.disk { stop = calls }
  pub settled : new.notes.is_settled ≡ old.notes.is_settled
  pub up : is_some new.core ≡ is_some old.core

-- Its store was read. Where that failed it is down.
pub record Looks (failed : Type 0) (old new : Within) : Type 0 where
  pub counts : CountsOne old new
  pub reads : OnlyReads failed old.disk new.disk
  pub settled : new.notes.is_settled ≡ old.notes.is_settled
  pub up : is_some new.core ≡ true → is_some old.core ≡ true

-- it crashed
pub record Fell (old new : Within) : Type 0 where
  pub counts : CountsOne old new
  pub left : MayLeave old.disk.now new.disk.now.seen
  pub durable : IsSettled new.disk
  pub stop : new.disk.stop ≡ None
  pub faults : new.disk.faults ≡ old.disk.faults
  pub quiet : new.disk.quiet ≡ old.disk.quiet
  pub down : is_some new.core ≡ false
  pub settled : new.notes.is_settled ≡ true

-- A call that stores was answered: these records were added, each in four device calls, and without
-- a fault.
pub record GrewBy (old new : Within) : Type 0 where
  pub counts : CountsOne old new
  pub records : List Record
  pub gained : HasGained records old.disk new.disk
  pub up : is_some new.core ≡ true
  pub settled : new.notes.is_settled ≡ true

-- Its disk failed in it: whatever a crash then leaves has the old records, and some that the call
-- adds.
pub record Broke (old new : Within) : Type 0 where
  pub counts : CountsOne old new
  pub left : (image : List ℕ) → MayLeave new.disk.now image → (added : List Record)
      × HasAdded old.disk.now.seen added image
  pub calls : ℕ
  pub stop : LoweredByLess calls old.disk.stop new.disk.stop
  pub faults : new.disk.faults ≡ with_fault old.disk.faults
  pub reached : IsTrue old.disk.quiet → new.disk.stop ≡ Some 0
  pub quiet : new.disk.quiet ≡ old.disk.quiet
  pub down : is_some new.core ≡ false
  pub settled : new.notes.is_settled ≡ false

-- how many records its store has
abbrev pub count_in : Within → ℕ
count_in service = record_count (records_of service.disk.now.seen)

-- ---- records for a second store

-- at the place stands the gate behind so many records
pub record StandsAt (from place : ℕ) (image : List ℕ) : Type 0 where
  pub records : List (List ℕ)
  pub stands : StandsBehind place records image
  pub counted : from ≡ length records

-- the payloads behind them are these
abbrev pub AreBehind : ℕ → ℕ → List ℕ → List (List ℕ) → Type 0
AreBehind from place image payloads = (records : List (List ℕ)) → StandsBehind place records image
    → from ≡ length records → records_of image ≡ Ok (records ++ payloads)

-- they were read once more
abbrev pub read_once : Within → Within
read_once service = record service {
  notes =
      record service.notes { reads = service.notes.reads + 1 };
}

-- ---- a service that is taken for stopped

-- down, as behind a stop
abbrev pub halted : Within → Within
halted service = record service {
  core = None;
  held = [];
  notes =
      record service.notes { is_settled = false };
}

-- and over another disk
abbrev pub taken : Within → DiskState → Within
taken service disk = record (halted service) { disk = disk }

-- its disk failed as it was read
pub record FailedRead (old new : Within) : Type 0 where
  pub down : new ≡ taken (read_once old) new.disk
  pub reads : OnlyReads (Unit {0}) old.disk new.disk
