-- When a store goes on with its disk.
use Rattle.std.specs.Prelude.{◌≡◌, ℕ, Bool, IsTrue, IsFalse, Result, Ok, Err}
use Rattle.disk_model.specs.Disk.{DiskState, IsSettled}
use Rattle.redo_store.specs.declared.fault.RedoFault.{RedoFault}
use Rattle.redo_store.specs.declared.fault.RedoFault.TheVariants.{NoMemory, Stopped, Damaged}
use Rattle.redo_store.specs.declared.redo.Redo.{Redo}
use Rattle.redo_store.specs.meaning.Records.{records_of}
use Rattle.redo_store.specs.Records.{record_count}
use Rattle.redo_store.specs.Store.{IsStore}

-- it may be added to, as far as it knows
abbrev pub is_live : Redo → Bool
is_live redo = redo.live

-- how many records it has, as far as it knows
abbrev pub count_of : Redo → ℕ
count_of redo = redo.count

-- the place of the closed gate behind its last record, as far as it knows
abbrev pub tail_of : Redo → ℕ
tail_of redo = redo.tail

-- The store and the disk belong together and are ready: the store is live, the records on the disk
-- end at its tail, it counts them, and nothing is pending there.
pub record CanAppend (redo : Redo) (disk : DiskState) : Type 0 where
  pub live : IsTrue (is_live redo)
  pub store : IsStore redo.tail disk.now.seen
  pub counted : count_of redo ≡ record_count (records_of disk.now.seen)
  pub settled : IsSettled disk

-- After an answer the store goes on with its disk. But after Stopped it is not live, and ends and
-- counts as before; and no damage is told.
abbrev pub StoreGoesOn : Result (Unit {0}) RedoFault → Redo → Redo → DiskState → Type 0
StoreGoesOn (Ok done) old new disk = CanAppend new disk
StoreGoesOn (Err NoMemory) old new disk = CanAppend new disk
StoreGoesOn (Err Stopped) old new disk = IsFalse (is_live new) × (count_of new ≡ count_of old)
    × (tail_of new ≡ tail_of old)
StoreGoesOn (Err (Damaged place)) old new disk = ⊥
