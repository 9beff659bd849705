-- The plain server's core that stands beside a core.
use Rattle.std.specs.Prelude.{◌≡◌, ◌++◌, IfOk}
use Rattle.disk_model.specs.Disk.{DiskState}
use Rattle.commit_log.specs.declared.journal.Journal.{Journal}
use Rattle.commit_log.specs.meaning.Bases.{shape_of}
use Rattle.commit_log.specs.meaning.Journals.{journal_of}
use Rattle.server_model.specs.Core.{Core as Plain, committed, all_entries, all_blocked}
use Rattle.server_session.specs.declared.shared.Core.{Core}
use Rattle.server_session.specs.Fits.{tables_of, IsSourceOf}

-- The journal holds what the plain server has: what it began with, and what it has gained since.
pub record IsStored (plain : Plain) (journal : Journal) : Type 0 where
  pub shape : plain.base.shape ≡ shape_of journal.base
  pub entries : all_entries plain ≡ journal.entries
  pub blocked : all_blocked plain ≡ journal.blocked
  pub alerts : plain.base.alerts ++ plain.alerts ≡ journal.alerts
  pub horizon : plain.horizon ≡ journal.horizon
  pub tables : committed plain ≡ (tables_of journal).rows
  pub source : IsSourceOf plain.opening journal

-- the journal that the disk reads as does, and values come from the same source under the same
-- grants
pub record IsPlain (plain : Plain) (core : Core) (disk : DiskState) : Type 0 where
  pub stored : IfOk (journal_of disk.now.seen) (IsStored plain)
  pub opening : plain.opening ≡ core.source
  pub grants : plain.base.grants ≡ core.grants
