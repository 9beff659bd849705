-- What a service is seen as when it was made.
use Rattle.std.proofs.Common.{◌≡◌, ℕ, refl, sym, ap, subst, List, [], ◌∷◌, map, append-nil, arith}
use Rattle.std.specs.Prelude.{Result, Ok, IfOk}
use Rattle.disk_model.specs.Moment.{MayLeave}
use Rattle.disk_model.specs.Disk.{DiskState}
use Rattle.mutable_values.specs.declared.grants.Grants.{Grants}
use Rattle.commit_log.specs.declared.base.BaseSequence.{BaseSequence}
use Rattle.commit_log.specs.declared.journal.Journal.{Journal}
use Rattle.commit_log.specs.meaning.Journals.{journal_of}
use Rattle.server_model.specs.meaning.Core.{sequence_at}
use Rattle.server_model.specs.Core.{core_of}
use Rattle.server_model.specs.Runs.{server_of, Start}
use Rattle.server_model.specs.Seen.{Store, IsNew}
use Rattle.server_session.specs.Fits.{sequence_in, sequence_of}
use Rattle.server_session.specs.Plain.{IsStored}
use Rattle.service_core.specs.Seeing.{SeesIn}
use Rattle.service_core.specs.Sound.{IsSoundWithin, Reads}
use Rattle.service_core.specs.Starting.{CanBegin, first_notes, made_on, base_of, seen_new}
use Rattle.service_core.specs.InnerHonest.{store_is}

pub made_soundly : (disk : DiskState) (grants : Grants) → CanBegin disk → MayLeave disk.now disk.now.seen → IsSoundWithin (made_on disk grants)
made_soundly disk grants can reads_now = record {
  none = refl;
  base = can.journal.base;
  leaves = λ image leaves. subst (λ (i : List ℕ). Reads can.journal.base first_notes i) (sym (can.settled image leaves)) (record { journal = can.journal; reads = can.reads; base_is = refl; room = omega (arith, can.room) });
  faults = (omega (arith, can.faults), omega arith);
  crashes = omega arith;
  reads_now = reads_now;
  settled = λ settled. can.settled;
}

-- the reservations are those of the journal
same_sequences : (journal : Journal) (sequences : List BaseSequence) → map sequence_in (map sequence_at (map (sequence_of journal) sequences)) ≡ map (sequence_of journal) sequences
same_sequences journal [] = refl
same_sequences journal (sequence ∷ sequences) = ap (λ rest. sequence_of journal sequence ∷ rest) (same_sequences journal sequences)

-- the plain server that begins there has gained nothing yet
begins_stored : (journal : Journal) (grants : Grants) → IsStored (core_of (base_of journal grants)) journal
begins_stored journal grants = record {
  shape = refl;
  entries = append-nil journal.entries;
  blocked = append-nil journal.blocked;
  alerts = append-nil journal.alerts;
  horizon = refl;
  tables = refl;
  source = record { incarnation = refl; sequences = same_sequences journal journal.base.sequences };
}

pub made_seen : (disk : DiskState) (grants : Grants) (journal : Journal) → CanBegin disk → MayLeave disk.now disk.now.seen → journal_of disk.now.seen ≡ Ok journal → SeesIn (made_on disk grants) (seen_new (made_on disk grants) (base_of journal grants))
made_seen disk grants journal can reads_now reads = record {
  live = refl;
  sound = made_soundly disk grants can reads_now;
  sees = record {
    state_is = refl;
    stands = λ image leaves. record {
      server = server_of (base_of journal grants);
      runs = Start;
      is_base = refl;
      stands = record {
        power = refl;
        stored = subst (λ (i : List ℕ). IfOk (journal_of i) (IsStored (core_of (base_of journal grants)))) (sym (can.settled image leaves))
            (subst (λ (r : Result Journal ℕ). IfOk r (IsStored (core_of (base_of journal grants)))) (sym reads) (begins_stored journal grants));
        grants_are = refl;
      };
    };
  };
}

pub made_new : (disk : DiskState) (grants : Grants) (journal : Journal) → CanBegin disk → journal_of disk.now.seen ≡ Ok journal → IsNew (seen_new (made_on disk grants) (base_of journal grants))
made_new disk grants journal can reads = record {
  history = refl;
  entries = ap (λ (s : Store). s.entries) (store_is disk.now.seen journal reads);
  blocked = ap (λ (s : Store). s.blocked) (store_is disk.now.seen journal reads);
  alerts = ap (λ (s : Store). s.alerts) (store_is disk.now.seen journal reads);
  incarnation = ap (λ (s : Store). s.incarnation) (store_is disk.now.seen journal reads);
  horizon = ap (λ (s : Store). s.horizon) (store_is disk.now.seen journal reads);
  down = (refl, refl, refl);
  none = (λ connection. refl, can.stop, refl, refl, refl, refl);
}
