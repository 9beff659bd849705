-- A record that is added to a store.
use Rattle.std.specs.Prelude.{◌≡◌, ◌⊎◌, ℕ, List}
use Rattle.redo_store.specs.meaning.Records.{records_of}
use Rattle.redo_store.specs.Records.{with_last}
use Rattle.commit_log.specs.declared.records.Record.{Record}
use Rattle.commit_log.specs.declared.records.Record.TheVariants as kept
use Rattle.commit_log.specs.declared.records.Adding.{Adding}
use Rattle.commit_log.specs.declared.records.Adding.TheVariants as lent
use Rattle.commit_log.specs.RecordBytes.{spell_record, FitsRecord}

-- what is lent, as a record
abbrev pub record_in : Adding → Record
record_in (lent.Base base) = kept.Base base.now
record_in (lent.Opened incarnation) = kept.Opened incarnation
record_in (lent.Commit entry) = kept.Commit entry.now
record_in (lent.Blocked x) = kept.Blocked x.now
record_in (lent.Reserved name upto) = kept.Reserved (record { name = name.now; upto = upto })
record_in (lent.Alert line) = kept.Alert line.now
record_in (lent.Horizon horizon) = kept.Horizon horizon

-- the image has the records of the old one, and this record last
pub record HasAlso (old : List ℕ) (new : Record) (image : List ℕ) : Type 0 where
  pub records : records_of image ≡ with_last (spell_record new) (records_of old)
  pub fits : FitsRecord new

-- the image has the records of the old one, or these and this record last
abbrev pub IsOldOrWith : List ℕ → Record → List ℕ → Type 0
IsOldOrWith old new image = (records_of image ≡ records_of old) ⊎ HasAlso old new image
