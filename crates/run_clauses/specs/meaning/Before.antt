-- What stands before event 1: the journal of the document, and the tables.
use Rattle.std.specs.Prelude.{ℕ, Bool, false, List, map, flat_map, Option, Some, None, Result, Ok, Err}
use Rattle.std.specs.Option.{option_map_or}
use Rattle.svc_values.specs.declared.schema.Shape.{Shape}
use Rattle.svc_values.specs.declared.entry.Entry.{Entry}
use Rattle.svc_values.specs.declared.entry.Write.{Write}
use Rattle.svc_values.specs.declared.tables.PlainRow.{PlainRow}
use Rattle.svc_values.specs.meaning.Tables.{with_writes}
use Rattle.commit_log.specs.declared.base.Base.{Base}
use Rattle.commit_log.specs.declared.base.BaseTable.{BaseTable}
use Rattle.commit_log.specs.declared.base.BaseSequence.{BaseSequence}
use Rattle.commit_log.specs.declared.journal.Journal.{Journal}
use Rattle.commit_log.specs.meaning.Bases.{shape_of, start_of}
use Rattle.commit_log.specs.meaning.Rules.{new_journal}
use Rattle.commit_log.specs.meaning.Journals.{so_far_of, journal_of, is_opened}
use Rattle.outage_schedule.specs.declared.document.DocTable.{DocTable}
use Rattle.outage_schedule.specs.declared.document.DocSequence.{DocSequence}
use Rattle.outage_schedule.specs.declared.document.Document.{Document}

abbrev pub base_table : DocTable → BaseTable
base_table table = record {
  schema = record { name = table.name; columns = table.columns };
  rows = table.rows;
}

abbrev pub base_sequence : DocSequence → BaseSequence
base_sequence sequence = record {
  name = sequence.name;
  start = sequence.start;
  keep = sequence.keep;
}

-- the base that a document gives
abbrev pub base_of : Document → Base
base_of document = record {
  tables = map base_table document.tables;
  sequences = map base_sequence document.sequences;
}

-- (The image of an accepted document is that of a journal.)
abbrev pub read_journal : Base → Result Journal ℕ → Journal
read_journal base (Err place) = new_journal base
read_journal base (Ok journal) = journal

abbrev pub given_journal : Base → Option (List ℕ) → Journal
given_journal base None = new_journal base
given_journal base (Some image) = read_journal base (journal_of image)

-- The journal before event 1: that of the document's image, and else one of nothing but the
-- document's base.
abbrev pub journal_before : Document → Journal
journal_before document = given_journal (base_of document) document.image

-- the store was opened before
abbrev pub was_opened : Document → Bool
was_opened document = option_map_or (λ image. is_opened (so_far_of image)) document.image false

-- the writes of entries, in order
abbrev pub writes_of : List Entry → List Write
writes_of entries = flat_map (λ entry. entry.writes) entries

-- the tables of a journal: the base's, with the writes of the entries
abbrev pub tables_of : Journal → List PlainRow
tables_of journal = with_writes (start_of journal.base) (writes_of journal.entries)

-- `Start`: the tables before event 1, those of the document, or those of its image after the
-- image's own entries
abbrev pub start : Document → List PlainRow
start document = tables_of (journal_before document)

-- which tables, columns and sequences there are, throughout the run
abbrev pub shape : Document → Shape
shape document = shape_of (journal_before document).base
