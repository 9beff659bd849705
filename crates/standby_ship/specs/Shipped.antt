-- What shipping does.
use Rattle.std.specs.Prelude.{◌≡◌, ◌≢◌, ◌*◌, ◌+◌, ◌<◌, ◌≤◌, ℕ, true, List, ◌++◌, Option, Some, None, Result, Ok, Err}
use Rattle.disk_model.specs.Moment.{MayLeave}
use Rattle.disk_model.specs.Disk.{Lowered}
use Rattle.redo_store.specs.meaning.Records.{records_of}
use Rattle.service_core.specs.Shipping.{taken}
use Rattle.service_core.specs.Unanswered.{LiesBetween}
use Rattle.service_core.specs.Within.{Within}
use Rattle.standby_ship.specs.Lagging.{lacked_in}
use Rattle.standby_ship.specs.Sound.{IsEven, MayShip}
use Rattle.standby_ship.specs.Twins.{Second}

-- ---- the second store alone

-- the records with these behind them, in order
abbrev pub with_lasts : List (List ℕ) → Result (List (List ℕ)) ℕ → Result (List (List ℕ)) ℕ
with_lasts payloads (Ok records) = Ok (records ++ payloads)
with_lasts payloads (Err place) = Err place

-- the image has the old records, and the first of these behind them
pub record HasSomeLasts (payloads : List (List ℕ)) (old image : List ℕ) : Type 0 where
  pub some : List (List ℕ)
  pub more : List (List ℕ)
  pub split : payloads ≡ some ++ more
  pub records : records_of image ≡ with_lasts some (records_of old)

-- ---- beside the first store's service

-- the service, whose store was read so often for shipping
abbrev pub with_reads : ℕ → Within → Within
with_reads reads service = record service { notes = record service.notes { reads = reads } }

-- No record is missing any more, and the second store is open. The first disk was read once at
-- most, and neither failed.
pub record IsCaughtUp (old new : Within) (before after : Second) : Type 0 where
  pub reads : ℕ
  pub primary : new ≡ with_reads reads old
  pub more_reads : old.notes.reads ≤ reads
  pub even : IsEven new after
  pub ready : MayShip after
  pub reads_now : MayLeave after.disk.now after.disk.now.seen
  pub faults : after.disk.faults ≡ before.disk.faults
  pub quiet : after.disk.quiet ≡ before.disk.quiet

-- Each record that the second store lacked was appended there, in its four device calls, under what
-- the first disk's stop still let pass. Where it lacked none it was not called.
pub record HasShipped (old new : Within) (before after : Second) : Type 0 where
  pub caught_up : IsCaughtUp old new before after
  pub none : lacked_in old before ≡ 0 → after ≡ before
  pub under : lacked_in old before ≢ 0 → Lowered
      (4 * lacked_in old before) old.disk.stop after.disk.stop

-- A disk failed in it: the first one as it was read, or the second; in quiet ones only under a stop
-- of fewer device calls than so many records take. The first store holds what it held; of the
-- second a crash leaves what it had and some of what it lacked, in order. The service is down, as
-- behind a stop.
pub record HasBroken (most : ℕ) (old new : Within) (before after : Second) : Type 0 where
  pub reads : ℕ
  pub down : new ≡ taken (with_reads reads old) new.disk
  pub more_reads : old.notes.reads ≤ reads
  pub some : 1 ≤ most
  pub bytes : new.disk.now ≡ old.disk.now
  pub stop : new.disk.stop ≡ old.disk.stop
  pub between : (image : List ℕ) → MayLeave after.disk.now image
      → LiesBetween before.disk.now.seen image old.disk.now.seen
  pub reads_now : MayLeave after.disk.now after.disk.now.seen
  pub rose : old.disk.faults + before.disk.faults < new.disk.faults + after.disk.faults
  pub faults : (old.disk.faults ≤ new.disk.faults) × (after.disk.faults ≤ before.disk.faults + 1)
  pub reached : old.disk.quiet ≡ true → before.disk.quiet ≡ true
      → (n : ℕ) × ((old.disk.stop ≡ Some n) × (n < 4 * most))
  pub quiet : (new.disk.quiet ≡ old.disk.quiet) × (after.disk.quiet ≡ before.disk.quiet)

-- ---- where there may be no second store

-- with none nothing is done
abbrev pub HasShippedSome : Within → Within → Option Second → Option Second → Type 0
HasShippedSome old new None None = new ≡ old
HasShippedSome old new (Some before) (Some after) = HasShipped old new before after
HasShippedSome old new None (Some after) = ⊥
HasShippedSome old new (Some before) None = ⊥

-- the same without what it says of the stop
abbrev pub IsCaughtUpSome : Within → Within → Option Second → Option Second → Type 0
IsCaughtUpSome old new None None = new ≡ old
IsCaughtUpSome old new (Some before) (Some after) = IsCaughtUp old new before after
IsCaughtUpSome old new None (Some after) = ⊥
IsCaughtUpSome old new (Some before) None = ⊥

abbrev pub HasBrokenSome : ℕ → Within → Within → Option Second → Option Second → Type 0
HasBrokenSome most old new (Some before) (Some after) = HasBroken most old new before after
HasBrokenSome most old new None after = ⊥
HasBrokenSome most old new (Some before) None = ⊥
