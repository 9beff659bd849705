-- What a core knows of a journal, and which record it may take over.
use Rattle.std.specs.Prelude.{◌≡◌, Bool, IsTrue}
use Rattle.mutable_values.specs.Sources.{are_sequences}
use Rattle.commit_log.specs.declared.journal.Journal.{Journal}
use Rattle.commit_log.specs.declared.records.Record.{Record}
use Rattle.commit_log.specs.Judging.{IsBookFor}
use Rattle.commit_log.specs.RecordBytes.{FitsRecord}
use Rattle.commit_log.specs.meaning.Rules.{may_come}
use Rattle.server_session.specs.declared.shared.Core.{Core}
use Rattle.server_session.specs.Fits.{IsSourceOf, tables_of}

-- The tables, the book and the source are those of this journal, wherever the log is.
pub record IsOfJournal (core : Core) (journal : Journal) : Type 0 where
  pub tables : core.tables ≡ tables_of journal
  pub book : IsBookFor core.book journal
  pub source : IsSourceOf core.source journal
  pub sequences : IsTrue (are_sequences core.source.sequences)

-- the record may come next in it
pub record MayFollow (core : Core) (one : Record) : Type 0 where
  pub is_opened : Bool
  pub has_horizon : Bool
  pub journal : Journal
  pub of_journal : IsOfJournal core journal
  pub may : IsTrue (may_come journal is_opened has_horizon one)
  pub fits : FitsRecord one
