-- What a call that adds records leaves of a store, and what a crash does.
use Rattle.std.specs.Prelude.{◌≡◌, ℕ, ◌+◌, ◌≤◌, Bool, max, List, [], ◌∷◌, ◌++◌, length, take, map, fold, Some, Result, Ok, Err, if◌then◌else◌}
use Rattle.redo_store.specs.meaning.Records.{records_of}
use Rattle.commit_log.specs.declared.journal.Journal.{Journal}
use Rattle.commit_log.specs.declared.records.Record.{Record}
use Rattle.commit_log.specs.declared.records.Record.TheVariants as kept
use Rattle.commit_log.specs.RecordBytes.{spell_record}
use Rattle.commit_log.specs.meaning.Rules.{SoFar, Begun, rises, with_record}
use Rattle.commit_log.specs.meaning.Journals.{whole_record, journal_of}

-- the journal with these records more, in order
abbrev pub with_records : List Record → Result Journal ℕ → Result Journal ℕ
with_records records (Err place) = Err place
with_records records (Ok journal) = Ok (fold with_record journal records)

-- the payloads with those of these records behind them, in order
abbrev pub with_payloads : List Record → Result (List (List ℕ)) ℕ → Result (List (List ℕ)) ℕ
with_payloads records (Err place) = Err place
with_payloads records (Ok payloads) = Ok (payloads ++ map spell_record records)

-- The image has the records of the old one and behind them these, each of which is read back from
-- its bytes, and so has its journal.
pub record HasAdded (old : List ℕ) (added : List Record) (image : List ℕ) : Type 0 where
  pub records : records_of image ≡ with_payloads added (records_of old)
  pub read : map (λ one. whole_record (spell_record one)) added ≡ map (λ one. Some one) added
  pub journal : journal_of image ≡ with_records added (journal_of old)

-- the image has the records of the old one, and behind them some of these, in order
pub record IsGrown (old : List ℕ) (records : List Record) (image : List ℕ) : Type 0 where
  pub count : ℕ
  pub within : count ≤ length records
  pub has : HasAdded old (take count records) image

-- what an opening with this horizon stores first: the horizon, where it rises or is the first
abbrev pub horizon_of : ℕ → Journal → (has_horizon : Bool) → List Record
horizon_of horizon journal has_horizon =
    if rises journal has_horizon horizon then kept.Horizon horizon ∷ [] else []

-- the same of a journal as far as it has come, and nothing where there is none
abbrev pub first_of_opening : ℕ → Result SoFar ℕ → List Record
first_of_opening horizon (Ok (Begun journal is_opened has_horizon)) =
    horizon_of horizon journal has_horizon
first_of_opening horizon _ = []

-- the records that an opening adds to a journal: then the incarnation after the last
abbrev pub opening_of : ℕ → Result SoFar ℕ → List Record
opening_of horizon (Ok (Begun journal is_opened has_horizon)) =
    horizon_of horizon journal has_horizon ++ kept.Opened (journal.incarnation + 1) ∷ []
opening_of horizon _ = []

-- the journal after an opening: the incarnation is the one after the last, and the horizon the
-- greater one
abbrev pub with_opening : ℕ → Result Journal ℕ → Result Journal ℕ
with_opening horizon (Err place) = Err place
with_opening horizon (Ok journal) = Ok (record journal {
  incarnation =
      journal.incarnation + 1;
  horizon = max journal.horizon horizon;
})
