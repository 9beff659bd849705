-- What is told of the records that a log has read.
use Rattle.std.proofs.Common.{◌≡◌, Bool, List, ℕ}
use Rattle.commit_log.specs.declared.journal.Journal.{Journal}
use Rattle.commit_log.specs.declared.log.Log.{Log}
use Rattle.commit_log.specs.declared.recorded.Recorded.{Recorded}
use Rattle.commit_log.specs.declared.records.Record.{Record}
use Rattle.commit_log.specs.meaning.Rules.{with_record}
use Rattle.commit_log.specs.Logs.{HasReadOn, Trails}
use Rattle.commit_log.specs.Recorded.{recorded_of}

-- The log ends behind the first records of an image, and of the journal that these come to this is
-- told.
pub record HasTold (told : Recorded) (log : Log) (image : List ℕ) : Type 0 where
  pub is_opened : Bool
  pub has_horizon : Bool
  pub journal : Journal
  pub trails : Trails is_opened has_horizon journal log image
  pub tells : told ≡ recorded_of journal

-- one record more
pub told_more : (is_opened has_horizon : Bool) (journal : Journal) (one : Record) (log : Log) (image : List ℕ) (told : Recorded) → HasReadOn is_opened has_horizon journal one log image
    → told ≡ recorded_of (with_record journal one) → HasTold told log image
told_more is_opened has_horizon journal one log image told read tells = record { is_opened = _; has_horizon = _; journal = _; trails = read.trails; tells = tells }
