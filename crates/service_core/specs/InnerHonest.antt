-- What is seen of a service is honest: its history is one of the plain server and ends with the
-- store, and its bytes say what the store holds.
use Rattle.std.proofs.Common.{◌≡◌, ◌∙◌, ℕ, Bool, true, false, refl, sym, ap, subst, List, ◌++◌}
use Rattle.std.specs.Prelude.{Option, Some, None, Result, Ok, IfOk}
use Rattle.disk_model.specs.Disk.{DiskState}
use Rattle.redo_store.specs.meaning.Records.{records_of}
use Rattle.redo_store.specs.Records.{record_count}
use Rattle.mutable_values.specs.declared.grants.Grants.{Grants}
use Rattle.commit_log.specs.declared.journal.Journal.{Journal}
use Rattle.commit_log.specs.meaning.Journals.{journal_of}
use Rattle.server_model.specs.meaning.Base.{Base}
use Rattle.server_model.specs.Runs.{Happened, Server}
use Rattle.server_model.specs.Seen.{Store, ServiceState, Seen, IsHistory}
use Rattle.server_session.specs.declared.shared.Core.{Core}
use Rattle.server_session.specs.Plain.{IsStored}
use Rattle.service_calls.specs.Kept.{Pictures, IsHonest}
use Rattle.service_core.specs.declared.notes.Notes.{Notes}
use Rattle.service_core.specs.Held.{Held}
use Rattle.service_core.specs.Within.{Within}
use Rattle.service_core.specs.Seeing.{store_in, store_of, state_of, state_in, Stands, SeesIn, bytes_in}
use Rattle.service_core.specs.Sound.{IsSound}

-- what bytes hold that are those of a journal
pub store_is : (bytes : List ℕ) (journal : Journal) → journal_of bytes ≡ Ok journal
    → store_of bytes ≡ store_in (Ok journal) (record_count (records_of bytes))
store_is bytes journal reads = ap (λ (r : Result Journal ℕ). store_in
    r (record_count (records_of bytes))) reads

-- the store holds what the plain server began with and what it has gained since
record IsOf (start : Base) (server : Server) (store : Store) : Type 0 where
  entries : store.entries ≡ start.entries ++ server.core.entries
  blocked : store.blocked ≡ start.blocked ++ server.core.blocked
  alerts : store.alerts ≡ start.alerts ++ server.core.alerts
  incarnation : store.incarnation ≡ server.core.opening.incarnation
  horizon : store.horizon ≡ server.core.horizon

is_of : (start : Base) (server : Server) (bytes : List ℕ) (journal : Journal)
    → journal_of bytes ≡ Ok journal → server.core.base ≡ start
    → IfOk (journal_of bytes) (IsStored server.core) → IsOf start server (store_of bytes)
is_of start server bytes journal reads begins stored =
    let held = subst (λ (r : Result Journal ℕ). IfOk r (IsStored server.core)) reads stored in
    let is = store_is bytes journal reads in
    record {
      entries = ap (λ (s : Store). s.entries) is ∙ sym held.entries ∙ ap (λ (b : Base). b.entries
          ++ server.core.entries) begins;
      blocked = ap (λ (s : Store). s.blocked) is ∙ sym held.blocked ∙ ap (λ (b : Base). b.blocked
          ++ server.core.blocked) begins;
      alerts = ap (λ (s : Store). s.alerts) is ∙ sym held.alerts ∙ ap (λ (b : Base). b.alerts
          ++ server.core.alerts) begins;
      incarnation = ap (λ (s : Store). s.incarnation) is ∙ sym held.source.incarnation;
      horizon = ap (λ (s : Store). s.horizon) is ∙ sym held.horizon;
    }

history_of : (grants : Grants) (disk : DiskState) (core : Option Core) (held : Held) (notes : Notes)
    (start : Base) (history : List Happened) → IsSound grants disk core held notes
    → Stands grants disk core held notes start history
    → IsHistory (record { start = start; history = history; state = state_of disk core held notes })
history_of grants disk None held notes start history down stands =
    let read = down.leaves disk.now.seen down.reads_now in
    let came = stands disk.now.seen down.reads_now in
    let of = is_of start came.server disk.now.seen read.journal read.reads came.is_base
    came.stands.stored in
    record {
      server = came.server;
      runs = came.runs;
      entries = of.entries;
      blocked = of.blocked;
      alerts = of.alerts;
      incarnation = of.incarnation;
      horizon = of.horizon;
      count = λ up. absurd (let e : ◌≡◌ {A = Bool} false true = up in cc);
      power = came.stands.power;
    }
history_of grants disk (Some core) held notes start history up stands =
    let of = is_of start stands.server disk.now.seen up.fits.journal up.fits.reads stands.is_base
    stands.stands.plain.stored in
    record {
      server = stands.server;
      runs = stands.runs;
      entries = of.entries;
      blocked = of.blocked;
      alerts = of.alerts;
      incarnation = of.incarnation;
      horizon = of.horizon;
      count = λ is_up. sym stands.stands.count;
      power = stands.stands.power;
    }

pictured : (bytes : List ℕ) (journal : Journal) → journal_of bytes ≡ Ok journal
    → Pictures (store_of bytes) bytes
pictured bytes journal reads =
    let is = sym (store_is bytes journal reads) in
    record {
      journal = journal;
      reads = reads;
      tells = record {
        incarnation = ap (λ (s : Store). s.incarnation) is;
        horizon = ap (λ (s : Store). s.horizon) is;
        entries = ap (λ (s : Store). s.entries) is;
        blocked = ap (λ (s : Store). s.blocked) is;
        alerts = ap (λ (s : Store). s.alerts) is;
      };
    }

pictures_of : (grants : Grants) (disk : DiskState) (core : Option Core) (held : Held)
    (notes : Notes) → IsSound grants disk core held notes
    → Pictures (store_of disk.now.seen) disk.now.seen
pictures_of grants disk None held notes down = let read =
    down.leaves disk.now.seen down.reads_now in pictured disk.now.seen read.journal read.reads
pictures_of grants disk (Some core) held notes up =
    pictured disk.now.seen up.fits.journal up.fits.reads

pub honest : (service : Within) (seen : Seen) → SeesIn service seen
    → IsHonest (state_in service) (bytes_in service) seen
honest service seen sees =
    subst (λ (state : ServiceState). IsHonest (state_in service) (bytes_in service) (record {
      start = seen.start;
      history = seen.history;
      state = state;
    })) (sym sees.sees.state_is)
    (record {
      state_is = refl;
      history = history_of service.grants service.disk service.core service.held service.notes
          seen.start seen.history sees.sound sees.sees.stands;
      pictures = pictures_of service.grants service.disk service.core service.held service.notes
          sees.sound;
    })
