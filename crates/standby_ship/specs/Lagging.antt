-- When records may be shipped, and how many.
use Rattle.std.specs.Prelude.{◌≡◌, ◌-◌, ◌<◌, ◌≤◌, ◌^◌, ℕ, true, false, Option, Some, None, is_some}
use Rattle.disk_model.specs.Disk.{DiskState, IsSettled}
use Rattle.redo_store.specs.declared.redo.Redo.{Redo}
use Rattle.redo_store.specs.Records.{record_count}
use Rattle.redo_store.specs.meaning.Records.{records_of}
use Rattle.service_core.specs.Shipping.{count_in}
use Rattle.service_core.specs.Sound.{HasFaultRoom}
use Rattle.service_core.specs.Within.{Within}
use Rattle.standby_ship.specs.Sound.{IsFrontOf, MayShip}
use Rattle.standby_ship.specs.Twins.{Second}

-- how many records the second store lacks
abbrev pub lacked_in : Within → Second → ℕ
lacked_in primary second = count_in primary - record_count (records_of second.disk.now.seen)

-- a second store that is open, and ends here on this disk
abbrev pub open_at : Redo → DiskState → Second
open_at store disk = record { disk = disk; store = Some store }

-- The first store's service is up behind a call that was answered, and the second store has the
-- first of its records.
pub record Lags (primary : Within) (second : Second) : Type 0 where
  pub up : is_some primary.core ≡ true
  pub live : primary.notes.is_spent ≡ false
  -- its records were not read since that call
  pub once : primary.notes.reads < primary.notes.calls
  pub few : primary.notes.calls ≤ 2 ^ 48
  pub front : IsFrontOf second.disk.now.seen primary.disk.now.seen
  pub room : HasFaultRoom second.disk.faults primary.notes

-- ---- where there may be no second store

-- it lags, and is open
abbrev pub LagsOpen : Within → Option Second → Type 0
LagsOpen primary None = Unit {0}
LagsOpen primary (Some second) = Lags primary second × MayShip second

-- it lags, and nothing is pending on it
abbrev pub LagsSettled : Within → Option Second → Type 0
LagsSettled primary None = Unit {0}
LagsSettled primary (Some second) = Lags primary second × IsSettled second.disk

abbrev pub lacked_some : Within → Option Second → ℕ
lacked_some primary None = 0
lacked_some primary (Some second) = lacked_in primary second
