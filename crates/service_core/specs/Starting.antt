-- What a service is made of, and as which one it is made.
use Rattle.std.specs.Prelude.{◌≡◌, ◌≤◌, ◌^◌, true, false, [], None, Ok, map}
use Rattle.disk_model.specs.Disk.{DiskState, IsSettled}
use Rattle.mutable_values.specs.declared.grants.Grants.{Grants}
use Rattle.commit_log.specs.declared.journal.Journal.{Journal}
use Rattle.commit_log.specs.declared.log.Found.{Found}
use Rattle.commit_log.specs.Logs.{CanAdd}
use Rattle.commit_log.specs.meaning.Bases.{shape_of}
use Rattle.commit_log.specs.meaning.Journals.{so_far_of, journal_of}
use Rattle.commit_log.specs.meaning.Rules.{Begun}
use Rattle.server_model.specs.meaning.Base.{Base}
use Rattle.server_model.specs.Seen.{Seen}
use Rattle.server_session.specs.Fits.{tables_of, sequence_of}
use Rattle.service_core.specs.declared.notes.Notes.{Notes}
use Rattle.service_core.specs.Within.{Within}
use Rattle.service_core.specs.Seeing.{state_in}

-- The disk is settled, under no stop, and reads as a journal. Its faults and the journal's
-- incarnation leave room for all that may come.
pub record CanBegin (disk : DiskState) : Type 0 where
  pub settled : IsSettled disk
  pub stop : disk.stop ≡ None
  pub faults : disk.faults ≤ 2 ^ 62
  pub journal : Journal
  pub reads : journal_of disk.now.seen ≡ Ok journal
  pub room : journal.incarnation ≤ 2 ^ 62

-- This was found of the disk's store: its journal, and the log to go on with behind it.
pub record IsFoundOn (disk : DiskState) (found : Found) : Type 0 where
  pub so_far : so_far_of disk.now.seen ≡ Ok (Begun found.journal found.is_opened found.has_horizon)
  pub log : CanAdd found.log disk

-- nothing was called
abbrev pub first_notes : Notes
first_notes = record {
  is_settled = true;
  is_opened = false;
  sessions = 0;
  kept = None;
  crashes = 0;
  last_pick = None;
  last_stop = None;
  calls = 0;
  reads = 0;
  is_spent = false;
}

-- a service that is down on this disk
abbrev pub made_on : DiskState → Grants → Within
made_on disk grants = record {
  grants = grants;
  disk = disk;
  core = None;
  held = [];
  notes = first_notes;
}

-- the moment at which it was made: what the journal has is of the time before
abbrev pub base_of : Journal → Grants → Base
base_of journal grants = record {
  shape = shape_of journal.base;
  sequences = map (sequence_of journal) journal.base.sequences;
  grants = grants;
  tables = (tables_of journal).rows;
  entries = journal.entries;
  blocked = journal.blocked;
  alerts = journal.alerts;
  incarnation = journal.incarnation;
  horizon = journal.horizon;
}

-- what is seen of a service with this beginning, and nothing before
abbrev pub seen_new : Within → Base → Seen
seen_new service start = record { start = start; history = []; state = state_in service }
