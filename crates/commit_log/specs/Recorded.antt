-- What the records of a store say behind its base, as far as a report tells of it.
use Rattle.commit_log.specs.declared.journal.Journal.{Journal}
use Rattle.commit_log.specs.declared.recorded.Recorded.{Recorded}

-- the part of a journal that is told: its last horizon, its commits, its blocked identifiers and
-- its lines of text
abbrev pub recorded_of : Journal → Recorded
recorded_of journal = record {
  horizon = journal.horizon;
  entries = journal.entries;
  blocked = journal.blocked;
  alerts = journal.alerts;
}
