-- What a service leaves at its end: its tables are those of the journal that its store holds.
use Rattle.std.proofs.Common.{◌≡◌, ◌∙◌, ℕ, List, false, ap}
use Rattle.std.specs.Prelude.{Option, Some, None, IfSome, Ok}
use Rattle.disk_model.specs.Moment.{MayLeave}
use Rattle.disk_model.specs.Disk.{DiskState}
use Rattle.mutable_values.specs.declared.grants.Grants.{Grants}
use Rattle.commit_log.specs.declared.journal.Journal.{Journal}
use Rattle.commit_log.specs.declared.recorded.Recorded.{Recorded}
use Rattle.commit_log.specs.Recorded.{recorded_of}
use Rattle.commit_log.specs.meaning.Journals.{journal_in, journal_of}
use Rattle.table_store.specs.Stored.{Stored}
use Rattle.server_session.specs.Fits.{tables_of}
use Rattle.service_calls.specs.Ended.{IsEndOf}
use Rattle.service_core.specs.declared.resting.Resting.{Resting}
use Rattle.service_core.specs.Keeping.{KnowsAll, Rests, RestsBy, rested}
use Rattle.service_core.specs.Resting.{IsKeptWith}
use Rattle.service_core.specs.Within.{Within}
use Rattle.service_core.proofs.Read.{left_reads}
use Rattle.service_core.proofs.Rested.{goes_to_rest, one_journal}

-- the tables of the journal with these bytes, and what it says behind its base
abbrev pub AreTablesOf : List ℕ → Stored → Type 0
AreTablesOf image tables = (journal : Journal) × (journal_of image ≡ Ok journal) × (tables ≡ tables_of journal)

abbrev pub IsRecordedOf : List ℕ → Recorded → Type 0
IsRecordedOf image recorded = (journal : Journal) × (journal_of image ≡ Ok journal) × (recorded ≡ recorded_of journal)

-- of what knows all records
pub known_tables : (image : List ℕ) (kept : Resting) → KnowsAll image kept → AreTablesOf image kept.core.tables
known_tables image kept knows = (knows.journal, ap journal_in knows.so_far, knows.of_journal.tables)

-- both say what a service leaves
pub leaves : (image : List ℕ) (recorded : Recorded) (tables : Stored) → AreTablesOf image tables → IsRecordedOf image recorded → IsEndOf image (record { recorded = recorded; tables = tables })
leaves image recorded tables (journal, reads, are) (other, again, is) = record {
  journal = journal;
  reads = reads;
  recorded = is ∙ ap recorded_of (one_journal image other journal again reads);
  schemas = ap (λ (t : Stored). t.schemas) are;
  rows = ap (λ (t : Stored). t.rows) are;
}

-- ---- what is kept at the end

rests_as_read : (grants : Grants) (disk : DiskState) (resting : Option Resting) → MayLeave disk.now disk.now.seen → IfSome resting (RestsBy grants disk) → IfSome resting (Rests disk.now.seen)
rests_as_read grants disk None now kept = tt
rests_as_read grants disk (Some resting) now kept = kept.rests disk.now.seen now

-- it is true of the store as it is read
pub rests_now : (service : Within) (resting : Option Resting) → IsKeptWith service resting → service.notes.is_spent ≡ false → MayLeave service.disk.now service.disk.now.seen → IfSome (rested service.core resting) (Rests service.disk.now.seen)
rests_now service resting kept live now =
    rests_as_read service.grants service.disk (rested service.core resting) now
    (goes_to_rest service.grants service.disk service.disk service.core service.held service.notes resting (kept.kept live) (kept.at_rest live) (λ image left. left))

-- which is that of a journal
pub reads_now : (service : Within) (resting : Option Resting) → IsKeptWith service resting → service.notes.is_spent ≡ false → MayLeave service.disk.now service.disk.now.seen
    → (journal : Journal) × (journal_of service.disk.now.seen ≡ Ok journal)
reads_now service resting kept live now =
    let reads = (left_reads service.grants service.disk service.core service.held service.notes (kept.kept live)).1 service.disk.now.seen now in (reads.journal, reads.reads)
