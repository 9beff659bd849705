-- What stands after the first part of an opening.
use Rattle.std.specs.Prelude.{◌≡◌, ℕ, true, max, Ok}
use Rattle.disk_model.specs.Disk.{DiskState}
use Rattle.redo_store.specs.Redo.{CanAppend}
use Rattle.commit_log.specs.declared.journal.Journal.{Journal}
use Rattle.commit_log.specs.declared.judge.Judge.{Judge}
use Rattle.commit_log.specs.declared.log.Log.{Log}
use Rattle.commit_log.specs.meaning.Rules.{Begun}
use Rattle.commit_log.specs.meaning.Journals.{so_far_of}
use Rattle.commit_log.specs.Growth.{HasAdded, horizon_of}

-- the horizon is stored, where it rises or is the first, and the journal is the one that was
-- judged, with the greater horizon
pub record HasRaised (horizon : ℕ) (judge : Judge) (journal : Journal) (log : Log)
    (old new : DiskState) : Type 0 where
  pub journal_is : journal ≡ record judge.journal { horizon = max judge.journal.horizon horizon }
  pub added : HasAdded old.now.seen (horizon_of horizon judge.journal judge.has_horizon)
      new.now.seen
  pub append : CanAppend log.redo new
  pub so_far : so_far_of new.now.seen ≡ Ok (Begun journal judge.is_opened true)
