-- What a service keeps beside itself while it is down, and what an opening makes of it.
use Rattle.std.specs.Prelude.{◌≡◌, ◌+◌, ◌*◌, ◌-◌, ◌^◌, ℕ, Bool, false, pos, int_lt, max, List, [], ◌∷◌, length, Option, is_some, IfSome, IsTrue, OnOk, IsErrOf, Result, Ok, Err}
use Rattle.disk_model.specs.Moment.{MayLeave}
use Rattle.disk_model.specs.Disk.{DiskState, Meanwhile, Lowers, Caused}
use Rattle.redo_store.specs.declared.fault.RedoFault.{RedoFault}
use Rattle.redo_store.specs.declared.fault.RedoFault.TheVariants as fault
use Rattle.ltxid_book.specs.Sessions.{sessions_in}
use Rattle.mutable_values.specs.declared.source.SeqState.{SeqState}
use Rattle.commit_log.specs.declared.journal.Journal.{Journal}
use Rattle.commit_log.specs.declared.records.Record.{Record}
use Rattle.commit_log.specs.declared.records.Record.TheVariants as kept
use Rattle.commit_log.specs.Growth.{HasAdded, IsGrown, first_of_opening, opening_of}
use Rattle.commit_log.specs.Logs.{CanLog}
use Rattle.commit_log.specs.meaning.Journals.{journal_of, so_far_of}
use Rattle.server_model.specs.Core.{opening_after}
use Rattle.server_session.specs.declared.shared.Core.{Core}
use Rattle.server_session.specs.Following.{IsOfJournal}
use Rattle.service_core.specs.declared.resting.Resting.{Resting}
use Rattle.service_core.specs.Keeping.{IsCurrent, Rests, RestsBy}
use Rattle.service_core.specs.Sound.{IsKept}
use Rattle.service_core.specs.Within.{Within}

-- A service is as it has to be, and what is kept beside it is at rest while it is down.
pub record IsKeptWith (service : Within) (resting : Option Resting) : Type 0 where
  pub kept : IsKept service
  pub at_rest : service.notes.is_spent ≡ false → is_some service.core ≡ false
      → IfSome resting (RestsBy service.grants service.disk)

-- what adding these records to a store comes to, each in four device calls
pub record Extends (records : List Record) (answer : Result (Unit {0}) RedoFault)
    (old new : DiskState) : Type 0 where
  pub added : OnOk answer (HasAdded old.now.seen records new.now.seen)
  pub moments : Meanwhile old new (IsGrown old.now.seen records)
  pub stop : Lowers (4 * length records) answer old.stop new.stop
  pub cause : Caused (IsErrOf answer fault.Stopped) old new
  pub whole : (place : ℕ) → answer ≡ Err (fault.Damaged place) → ⊥

-- what is kept behind a stop
pub record Stays (answer : Result (Unit {0}) RedoFault) (old new : Resting)
    (end : DiskState) : Type 0 where
  pub left : IsErrOf answer fault.Stopped → (image : List ℕ) → MayLeave end.now image
      → Rests image new
  pub grants : new.core.grants ≡ old.core.grants

-- the horizon is stored, where it has to be
pub record Raises (horizon : ℕ) (answer : Result (Unit {0}) RedoFault) (old new : Resting)
    (disk end : DiskState) : Type 0 where
  pub extends : Extends (first_of_opening horizon (so_far_of disk.now.seen)) answer disk end
  pub current : OnOk answer (IsCurrent new end)
  pub stored : OnOk answer (IsTrue new.has_horizon)
  pub stays : Stays answer old new end

-- and the incarnation after the last
pub record Begins (answer : Result (Unit {0}) RedoFault) (old new : Resting)
    (disk end : DiskState) : Type 0 where
  pub extends : Extends (kept.Opened (old.core.source.incarnation + 1) ∷ []) answer disk end
  pub ready : OnOk answer (CanLog new.core.log end)
  pub same : OnOk answer (new.core ≡ record old.core { log = new.core.log })
  pub stays : Stays answer old new end

-- the core is that of the journal with this horizon, where it is the greater one
abbrev pub IsRaised : ℕ → List ℕ → Core → Type 0
IsRaised horizon image core = (journal : Journal) → journal_of image ≡ Ok journal
    → IsOfJournal core (record journal { horizon = max journal.horizon horizon })

-- both are
pub record Opens (horizon : ℕ) (answer : Result (Unit {0}) RedoFault) (old new : Resting)
    (disk end : DiskState) : Type 0 where
  pub extends : Extends (opening_of horizon (so_far_of disk.now.seen)) answer disk end
  pub ready : OnOk answer (CanLog new.core.log end)
  pub core : OnOk answer (IsRaised horizon disk.now.seen new.core)
  pub stays : Stays answer old new end

-- the reservation of a sequence leaves room for a value behind it
abbrev pub leaves_room : SeqState → Bool
leaves_room sequence = int_lt sequence.upto (pos (2 ^ 63 - 1))

-- the core of the next opening has the same tables and book, and a source that goes on behind the
-- reservations
pub record IsRenewed (core again : Core) : Type 0 where
  pub tables : again.tables ≡ core.tables
  pub book : sessions_in again.book ≡ sessions_in core.book
  pub source : again.source ≡ opening_after core.source (core.source.incarnation + 1)
  pub log_is : again.log ≡ core.log
  pub grants_are : again.grants ≡ core.grants
