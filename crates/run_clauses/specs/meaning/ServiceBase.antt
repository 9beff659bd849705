-- What the service of a run begins with: what its store has of the time before event 1.
use Rattle.std.specs.Prelude.{List, map}
use Rattle.mutable_values.specs.declared.grants.Grants.{Grants}
use Rattle.commit_log.specs.declared.base.BaseSequence.{BaseSequence}
use Rattle.commit_log.specs.declared.journal.Reservation.{Reservation}
use Rattle.commit_log.specs.declared.journal.Journal.{Journal}
use Rattle.commit_log.specs.meaning.Rules.{end_of}
use Rattle.outage_schedule.specs.declared.document.KeepOf.{KeepOf}
use Rattle.outage_schedule.specs.declared.document.Document.{Document}
use Rattle.run_clauses.specs.meaning.Before.{journal_before, start, shape}
use Rattle.server_model.specs.meaning.Base.{Sequence, Base}

-- A sequence goes on behind its last reservation.
abbrev pub sequence_of : List Reservation → BaseSequence → Sequence
sequence_of reserved sequence = record {
  name = sequence.name;
  upto = end_of reserved sequence;
  keep = sequence.keep;
}

abbrev pub sequences_of : Journal → List Sequence
sequences_of journal = map (sequence_of journal.reserved) journal.base.sequences

abbrev pub grants_of : KeepOf → Grants
grants_of keep = record { seq = keep.seq; clock = keep.clock; id = keep.id }

-- The service's base: that of the document or of its image, with the image's entries, blocks,
-- alerts and last incarnation.
abbrev pub service_base : Document → Base
service_base document =
    let before : Journal = journal_before document in
    record {
      shape = shape document;
      sequences = sequences_of before;
      grants = grants_of document.service.keep;
      tables = start document;
      entries = before.entries;
      blocked = before.blocked;
      alerts = before.alerts;
      incarnation = before.incarnation;
      horizon = before.horizon;
    }
