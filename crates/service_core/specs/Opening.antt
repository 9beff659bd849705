-- What a service goes on from at a new opening of its store.
use Rattle.std.specs.Prelude.{◌≡◌, ◌+◌, ◌*◌, ◌<◌, ◌≤◌, ◌^◌, ℕ, List, length, map, Ok}
use Rattle.disk_model.specs.Disk.{DiskState, Lowered}
use Rattle.mutable_values.specs.declared.grants.Grants.{Grants}
use Rattle.mutable_values.specs.Sources.{Opening}
use Rattle.commit_log.specs.declared.journal.Journal.{Journal}
use Rattle.commit_log.specs.Growth.{HasAdded, first_of_opening, opening_of, with_opening}
use Rattle.commit_log.specs.meaning.Journals.{so_far_of, journal_of}
use Rattle.server_model.specs.meaning.Core.{sequence_at}
use Rattle.server_session.specs.declared.shared.Core.{Core}
use Rattle.server_session.specs.Fits.{Fits, sequence_of}

-- The bytes are those of a journal in which the next opening has a number, and at most all
-- incarnations so far are to be forgotten.
pub record CanOpen (horizon : ℕ) (image : List ℕ) : Type 0 where
  pub journal : Journal
  pub reads : journal_of image ≡ Ok journal
  pub incarnation : journal.incarnation < 2 ^ 63
  pub forgets : horizon ≤ journal.incarnation + 1

-- the source of an opening that has this journal: each sequence goes on behind its last reservation
abbrev pub source_of : Journal → Opening
source_of journal = record {
  incarnation = journal.incarnation;
  identifiers = 0;
  sequences = map (λ sequence. sequence_at (sequence_of journal sequence)) journal.base.sequences;
}

-- how many device calls an opening makes
abbrev pub stop_of : ℕ → List ℕ → ℕ
stop_of horizon image = 4 * length (first_of_opening horizon (so_far_of image)) + 4

-- The store was opened: the journal is the old one with this opening. What its sessions share is
-- what this journal says, and nothing was drawn yet.
pub record HasOpened (horizon : ℕ) (grants : Grants) (old : DiskState) (core : Core)
    (new : DiskState) : Type 0 where
  pub fits : Fits core new
  pub opened : with_opening horizon (journal_of old.now.seen) ≡ Ok fits.journal
  pub source : core.source ≡ source_of fits.journal
  pub grants_are : core.grants ≡ grants
  pub added : HasAdded old.now.seen (opening_of horizon (so_far_of old.now.seen)) new.now.seen
  pub stop : Lowered (stop_of horizon old.now.seen) old.stop new.stop
