-- How stores grow, and which journal a log has.
use Rattle.std.specs.Prelude.{◌≡◌, ℕ, max, List, [], ◌∷◌, ◌++◌, fold, Ok}
use Rattle.disk_model.specs.Disk.{DiskState}
use Rattle.redo_store.specs.meaning.Records.{records_of}
use Rattle.redo_store.specs.Records.{record_count}
use Rattle.commit_log.specs.declared.journal.Journal.{Journal}
use Rattle.commit_log.specs.declared.records.Record.{Record}
use Rattle.commit_log.specs.declared.log.Log.{Log}
use Rattle.commit_log.specs.meaning.Rules.{with_record}
use Rattle.commit_log.specs.meaning.Journals.{so_far_of, journal_of}
use Rattle.commit_log.specs.Growth.{HasAdded, IsGrown, first_of_opening}
use Rattle.commit_log.specs.Logs.{count_of, CanLog}

-- an image with no record more has grown by none of any records
abbrev pub GrowsByNone : Type 0
GrowsByNone = (old : List ℕ) (records : List Record) (image : List ℕ) → HasAdded old [] image
    → IsGrown old records image

-- by some of the first records is by some of more
abbrev pub GrowsByMore : Type 0
GrowsByMore = (old : List ℕ) (records more : List Record) (image : List ℕ)
    → IsGrown old records image → IsGrown old (records ++ more) image

-- after all of the first records came some of the next
abbrev pub GrowsOn : Type 0
GrowsOn =
    (old : List ℕ) (records : List Record) (between : List ℕ) (more : List Record) (image : List ℕ)
    → HasAdded old records between → IsGrown between more image
    → IsGrown old (records ++ more) image

-- after all of the first records came all of the next
abbrev pub AddsOn : Type 0
AddsOn =
    (old : List ℕ) (records : List Record) (between : List ℕ) (more : List Record) (image : List ℕ)
    → HasAdded old records between → HasAdded between more image
    → HasAdded old (records ++ more) image

-- An image whose records lie between those of two stores, of which the second has these records
-- more, has grown by some of them.
abbrev pub FrontsAreGrown : Type 0
FrontsAreGrown =
    (old image whole : List ℕ) (added : List Record) (journal : Journal) (first : List ℕ)
    (mine some more : List (List ℕ))
    → HasAdded old added whole → journal_of whole ≡ Ok journal
    → records_of old ≡ Ok (first ∷ mine) → records_of image ≡ Ok (first ∷ mine ++ some)
    → records_of whole ≡ Ok (first ∷ mine ++ some ++ more)
    → IsGrown old added image

-- the journal of a log is the one that the disk holds, and it counts the disk's records
abbrev pub HasItsJournal : Type 0
HasItsJournal = (log : Log) (disk : DiskState) (ready : CanLog log disk)
    → (journal_of disk.now.seen ≡ Ok ready.journal)
    × (count_of log ≡ record_count (records_of disk.now.seen))

-- What an opening stores first makes the horizon the greater one, of the store's and the wanted.
abbrev pub RaisesHorizon : Type 0
RaisesHorizon =
    (image : List ℕ) (journal : Journal) (horizon : ℕ) → journal_of image ≡ Ok journal
    → fold with_record journal (first_of_opening horizon (so_far_of image))
    ≡ record journal { horizon = max journal.horizon horizon }
