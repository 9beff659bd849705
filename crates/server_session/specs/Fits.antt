-- When a core fits its disk, and a session its core.
use Rattle.std.specs.Prelude.{◌≡◌, false, IsTrue, map, Ok}
use Rattle.std.specs.List.{AllByRecursion}
use Rattle.disk_model.specs.Disk.{DiskState}
use Rattle.svc_values.specs.meaning.Fitting.{writes_fit}
use Rattle.ltxid_book.specs.meaning.Sessions.{is_forgotten}
use Rattle.ltxid_book.specs.Sessions.{sessions_in}
use Rattle.canon_bytes.specs.Entries.{IsMadePiece}
use Rattle.mutable_values.specs.declared.source.SeqState.{SeqState}
use Rattle.mutable_values.specs.Sources.{Opening, are_sequences}
use Rattle.commit_log.specs.declared.base.BaseSequence.{BaseSequence}
use Rattle.commit_log.specs.declared.journal.Journal.{Journal}
use Rattle.commit_log.specs.meaning.Bases.{schemas_of, start_of}
use Rattle.commit_log.specs.meaning.Rules.{end_of, sessions_of}
use Rattle.commit_log.specs.meaning.Journals.{journal_of}
use Rattle.commit_log.specs.Judging.{IsBookFor}
use Rattle.commit_log.specs.Logs.{CanLog}
use Rattle.table_store.specs.Stored.{Stored}
use Rattle.server_model.specs.meaning.Base.{Sequence}
use Rattle.server_model.specs.Core.{tables_with}
use Rattle.server_session.specs.declared.shared.Core.{Core}
use Rattle.server_session.specs.Holds.{HoldsSince}
use Rattle.server_session.specs.SeenSession.{SeenSession}

-- the tables of a journal: those that it began with, and what its entries wrote
abbrev pub tables_of : Journal → Stored
tables_of journal = record {
  schemas = schemas_of journal.base;
  rows = tables_with (start_of journal.base) journal.entries;
}

-- a sequence of a source, and one of a journal: where the values end that are set aside for it
abbrev pub sequence_in : SeqState → Sequence
sequence_in sequence = record { name = sequence.name; upto = sequence.upto; keep = sequence.keep }

abbrev pub sequence_of : Journal → BaseSequence → Sequence
sequence_of journal sequence = record {
  name = sequence.name;
  upto = end_of journal.reserved sequence;
  keep = sequence.keep;
}

-- the source has the journal's incarnation, its sequences, and their reservations
pub record IsSourceOf (source : Opening) (journal : Journal) : Type 0 where
  pub incarnation : source.incarnation ≡ journal.incarnation
  pub sequences : map sequence_in source.sequences ≡ map
      (sequence_of journal) journal.base.sequences

-- The log is live and nothing is pending on its disk, which reads as a journal. The tables, the
-- book and the source are those of this journal, whose incarnation is not forgotten. No two
-- sequences of the source have one name, and none gave a value past its reservation.
pub record Fits (core : Core) (disk : DiskState) : Type 0 where
  pub log : CanLog core.log disk
  pub journal : Journal
  pub reads : journal_of disk.now.seen ≡ Ok journal
  pub tables : core.tables ≡ tables_of journal
  pub book : IsBookFor core.book journal
  pub source : IsSourceOf core.source journal
  pub sequences : IsTrue (are_sequences core.source.sequences)
  pub current : is_forgotten (sessions_of journal) journal.incarnation ≡ false

-- The session is one of the core's incarnation, and its number is the next one by the book. Its
-- transaction can be stored: the writes fit the tables, and its calls are such as are made;
-- and what it read of a table is there still where no commit has written the table since.
pub record Belongs (core : Core) (seen : SeenSession) : Type 0 where
  pub incarnation : seen.ltxid.incarnation ≡ core.source.incarnation
  pub number : seen.ltxid.number ≡ ((sessions_in core.book).state seen.ltxid.incarnation
      seen.ltxid.session).next
  pub writes : IsTrue (writes_fit core.tables.schemas seen.txn.writes)
  pub calls : AllByRecursion IsMadePiece seen.txn.pieces
  pub holds : HoldsSince core seen.since seen.txn.readings
