-- The store that a run begins with.
use Rattle.std.specs.Prelude.{◌≡◌, ℕ, true, false, List, length, Option, None, Ok}
use Rattle.std.specs.Option.{option_map_or}
use Rattle.disk_model.specs.Disk.{DiskState, IsSettled}
use Rattle.disk_model.specs.Mem.{mem_state}
use Rattle.outage_schedule.specs.declared.document.DocTable.{DocTable}
use Rattle.outage_schedule.specs.declared.document.DocSequence.{DocSequence}
use Rattle.commit_log.specs.declared.base.Base.{Base}
use Rattle.commit_log.specs.declared.journal.Journal.{Journal}
use Rattle.commit_log.specs.meaning.Journals.{so_far_of, journal_of, is_opened}
use Rattle.run_clauses.specs.meaning.Before.{given_journal}
use Rattle.service_core.specs.Starting.{IsFoundOn}
use Rattle.continuity_run.specs.declared.store.Before.{Before}
use Rattle.continuity_run.specs.declared.store.Store.{Store}

abbrev pub table_name : DocTable → List ℕ
table_name table = table.name

abbrev pub sequence_name : DocSequence → List ℕ
sequence_name sequence = sequence.name

-- how many entries, blocks and lines a journal has
pub record Counts (journal : Journal) (before : Before) : Type 0 where
  pub entries : before.entries ≡ length journal.entries
  pub blocked : before.blocked ≡ length journal.blocked
  pub alerts : before.alerts ≡ length journal.alerts

-- none of its calls fails
pub record IsUntroubled (disk : DiskState) : Type 0 where
  pub unstopped : disk.stop ≡ None
  pub quiet : disk.quiet ≡ true

-- The store of an image, and else a new one of the base. Nothing is pending on its disk, of which
-- no call fails; what a read gives is the journal that stands before event 1, and is what was found
-- of it.
pub record IsStoreOf (base : Base) (image : Option (List ℕ)) (store : Store) : Type 0 where
  pub settled : IsSettled (mem_state store.disk)
  pub untroubled : IsUntroubled (mem_state store.disk)
  pub no_fault : (mem_state store.disk).faults ≡ 0
  pub reads : journal_of (mem_state store.disk).now.seen ≡ Ok (given_journal base image)
  pub found : IsFoundOn (mem_state store.disk) store.found
  pub opened : store.found.is_opened ≡ option_map_or
      (λ bytes. is_opened (so_far_of bytes)) image false
  pub counts : Counts (given_journal base image) store.before
