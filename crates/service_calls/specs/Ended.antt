-- What a service leaves at its end.
use Rattle.std.specs.Prelude.{◌≡◌, ℕ, List, Ok}
use Rattle.commit_log.specs.declared.journal.Journal.{Journal}
use Rattle.commit_log.specs.Recorded.{recorded_of}
use Rattle.commit_log.specs.meaning.Bases.{schemas_of, start_of}
use Rattle.commit_log.specs.meaning.Journals.{journal_of}
use Rattle.server_model.specs.Core.{tables_with}
use Rattle.service_calls.specs.declared.ended.Ended.{Ended}

-- The bytes are those of a journal, and this is what it says: what was recorded behind its base,
-- the tables that the base declares, and their rows, those of the base with what the entries wrote.
pub record IsEndOf (bytes : List ℕ) (ended : Ended) : Type 0 where
  pub journal : Journal
  pub reads : journal_of bytes ≡ Ok journal
  pub recorded : ended.recorded ≡ recorded_of journal
  pub schemas : ended.tables.schemas ≡ schemas_of journal.base
  pub rows : ended.tables.rows ≡ tables_with (start_of journal.base) journal.entries
