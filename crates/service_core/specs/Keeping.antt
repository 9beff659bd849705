-- What is kept of a service that is down: what its sessions shared, true of the first records of
-- its store.
use Rattle.std.specs.Prelude.{◌≡◌, ◌<◌, ◌-◌, ℕ, Bool, true, false, not, nat_lt, ◌||◌, List, length, Option, Some, None, IsErrOf, Result, Ok, Err}
use Rattle.disk_model.specs.Moment.{MayLeave}
use Rattle.disk_model.specs.Disk.{DiskState, IsSettled, OnlyReads}
use Rattle.redo_store.specs.Redo.{tail_of}
use Rattle.redo_store.specs.declared.fault.RedoFault.{RedoFault}
use Rattle.redo_store.specs.declared.fault.RedoFault.TheVariants as fault
use Rattle.ltxid_book.specs.Sessions.{sessions_in}
use Rattle.mutable_values.specs.declared.grants.Grants.{Grants}
use Rattle.commit_log.specs.declared.journal.Journal.{Journal}
use Rattle.commit_log.specs.Logs.{CanAdd, Trails}
use Rattle.commit_log.specs.meaning.Journals.{so_far_of}
use Rattle.commit_log.specs.meaning.Rules.{Begun}
use Rattle.server_session.specs.declared.shared.Core.{Core}
use Rattle.server_session.specs.Following.{IsOfJournal}
use Rattle.service_core.specs.declared.resting.Resting.{Resting}

-- what the sessions shared; it is of a store that has a horizon
abbrev pub rests_of : Core → Resting
rests_of core = record { core = core; has_horizon = true }

-- with that, if they did
abbrev pub rested : Option Core → Option Resting → Option Resting
rested (Some core) resting = Some (rests_of core)
rested None resting = resting

-- Its log ends behind the first records of the image, and it is of the journal that these come to.
pub record Rests (image : List ℕ) (resting : Resting) : Type 0 where
  pub is_opened : Bool
  pub journal : Journal
  pub of_journal : IsOfJournal resting.core journal
  pub trails : Trails is_opened resting.has_horizon journal resting.core.log image

-- so it is of whatever a crash leaves, and it keeps for replays what the service does
pub record RestsBy (grants : Grants) (disk : DiskState) (resting : Resting) : Type 0 where
  pub rests : (image : List ℕ) → MayLeave disk.now image → Rests image resting
  pub granted : resting.core.grants ≡ grants

-- It knows all records of the image, and is of the journal that these come to.
pub record KnowsAll (image : List ℕ) (resting : Resting) : Type 0 where
  pub is_opened : Bool
  pub journal : Journal
  pub of_journal : IsOfJournal resting.core journal
  pub so_far : so_far_of image ≡ Ok (Begun journal is_opened resting.has_horizon)

-- It knows all records of its disk, and more may be added.
pub record IsCurrent (resting : Resting) (disk : DiskState) : Type 0 where
  pub knows : KnowsAll disk.now.seen resting
  pub log : CanAdd resting.core.log disk

-- the horizon is above the one that it knows, or none is stored yet
abbrev pub rises_on : Resting → ℕ → Bool
rises_on resting horizon = not resting.has_horizon
    || nat_lt (sessions_in resting.core.book).horizon horizon

-- ---- one record more

-- how much of the disk it does not know
abbrev pub rest_of : Resting → DiskState → ℕ
rest_of resting disk = length disk.now.seen - tail_of resting.core.log.redo

-- by whether there was one
abbrev pub Reached : Bool → Resting → Resting → DiskState → DiskState → Type 0
Reached true old new disk end = Rests disk.now.seen new × (rest_of new disk < rest_of old disk)
Reached false old new disk end = KnowsAll disk.now.seen new × (IsSettled disk → IsCurrent new end)

abbrev pub StepsTo : Result Bool RedoFault → Resting → Resting → DiskState → DiskState → Type 0
StepsTo (Ok more) old new disk end = Reached more old new disk end
StepsTo (Err fault.NoMemory) old new disk end = Unit {0}
StepsTo (Err fault.Stopped) old new disk end = new ≡ old
StepsTo (Err (fault.Damaged place)) old new disk end = ⊥

pub record Steps (answer : Result Bool RedoFault) (old new : Resting)
    (disk end : DiskState) : Type 0 where
  pub reached : StepsTo answer old new disk end
  pub reads : OnlyReads (IsErrOf answer fault.Stopped) disk end
  pub grants : new.core.grants ≡ old.core.grants
