-- What is seen of a service says what the journal of its store holds.
use Rattle.std.proofs.Common.{◌≡◌, ◌∙◌, ℕ, sym, ap, subst, List, ◌++◌, Option, Some, None, Result, Ok}
use Rattle.std.specs.Prelude.{IfOk}
use Rattle.disk_model.specs.Disk.{DiskState}
use Rattle.redo_store.specs.Records.{record_count}
use Rattle.redo_store.specs.meaning.Records.{records_of}
use Rattle.mutable_values.specs.declared.grants.Grants.{Grants}
use Rattle.commit_log.specs.declared.journal.Journal.{Journal}
use Rattle.commit_log.specs.meaning.Journals.{journal_of}
use Rattle.run_clauses.specs.meaning.Before.{tables_of}
use Rattle.server_model.specs.meaning.Base.{Base}
use Rattle.server_model.specs.Core.{committed}
use Rattle.server_model.specs.Runs.{Happened, Server, Runs}
use Rattle.server_model.specs.Seen.{Store, ServiceState, Seen}
use Rattle.server_session.specs.declared.shared.Core.{Core}
use Rattle.server_session.specs.Fits.{IsSourceOf}
use Rattle.server_session.specs.Plain.{IsStored}
use Rattle.service_core.specs.declared.notes.Notes.{Notes}
use Rattle.service_core.specs.Held.{Held}
use Rattle.service_core.specs.Seeing.{Stands, StandsIn, SeesIn, bytes_in, state_in, store_in}
use Rattle.service_core.specs.Sound.{IsSound, IsSoundWithin}
use Rattle.service_core.specs.Within.{Within}
use Rattle.standby_ship.specs.Seeing.{SeesPair, bytes_in as bytes_in_pair}
use Rattle.standby_ship.specs.Twins.{Twin}

-- The journal has what the service began with, and behind it what a run of the plain server has
-- gained.
pub record HasGained (start : Base) (history : List Happened) (journal : Journal) : Type 0 where
  pub server : Server
  pub runs : Runs start history server
  pub entries : journal.entries ≡ start.entries ++ server.core.entries
  pub blocked : journal.blocked ≡ start.blocked ++ server.core.blocked
  pub alerts : journal.alerts ≡ start.alerts ++ server.core.alerts
  pub tables : committed server.core ≡ tables_of journal
  pub source : IsSourceOf server.core.opening journal
  pub begins : server.core.base ≡ start

gained_by : (start : Base) (history : List Happened) (server : Server) (journal : Journal) → Runs start history server → server.core.base ≡ start → IsStored server.core journal → HasGained start history journal
gained_by start history server journal runs begins stored = record {
  server = server;
  runs = runs;
  entries = sym stored.entries ∙ ap (λ (base : Base). base.entries ++ server.core.entries) begins;
  blocked = sym stored.blocked ∙ ap (λ (base : Base). base.blocked ++ server.core.blocked) begins;
  alerts = sym stored.alerts ∙ ap (λ (base : Base). base.alerts ++ server.core.alerts) begins;
  tables = stored.tables;
  source = stored.source;
  begins = begins;
}

gained_in : (grants : Grants) (disk : DiskState) (core : Option Core) (held : Held) (notes : Notes) (start : Base) (history : List Happened) (journal : Journal) → IsSound grants disk core held notes → Stands grants disk core held notes start history
    → journal_of disk.now.seen ≡ Ok journal → HasGained start history journal
gained_in grants disk None held notes start history journal down stands reads =
    let came = stands disk.now.seen down.reads_now in
    gained_by start history came.server journal came.runs came.is_base (subst (λ (read : Result Journal ℕ). IfOk read (IsStored came.server.core)) reads came.stands.stored)
gained_in grants disk (Some core) held notes start history journal up stands reads =
    gained_by start history stands.server journal stands.runs stands.is_base (subst (λ (read : Result Journal ℕ). IfOk read (IsStored stands.server.core)) reads stands.stands.plain.stored)

-- The history of what is seen has led to the journal, and so its store says.
pub record EndsIn (seen : Seen) (journal : Journal) : Type 0 where
  pub gained : HasGained seen.start seen.history journal
  pub horizon : seen.state.store.horizon ≡ journal.horizon
  pub incarnation : seen.state.store.incarnation ≡ journal.incarnation
  pub entries : seen.state.store.entries ≡ journal.entries

stands_so : (service : Within) (seen : Seen) (journal : Journal) → IsSoundWithin service → StandsIn service seen.start seen.history → seen.state.store ≡ (state_in service).store → journal_of (bytes_in service) ≡ Ok journal → EndsIn seen journal
stands_so service seen journal sound stands store reads =
    let records = record_count (records_of (bytes_in service)) in
    let told : (state_in service).store ≡ store_in (Ok journal) records = ap (λ (read : Result Journal ℕ). store_in read records) reads in
    let same : seen.state.store ≡ store_in (Ok journal) records = store ∙ told in
    record {
      gained = gained_in service.grants service.disk service.core service.held service.notes seen.start seen.history journal sound stands reads;
      horizon = ap (λ (s : Store). s.horizon) same;
      incarnation = ap (λ (s : Store). s.incarnation) same;
      entries = ap (λ (s : Store). s.entries) same;
    }

pub one_ends : (service : Within) (seen : Seen) (journal : Journal) → SeesIn service seen → journal_of (bytes_in service) ≡ Ok journal → EndsIn seen journal
one_ends service seen journal sees reads = stands_so service seen journal sees.sound sees.sees.stands (ap (λ (state : ServiceState). state.store) sees.sees.state_is) reads

-- a pair as the service of its first store, or of the only one
pub pair_ends : (pair : Twin) (seen : Seen) (journal : Journal) → SeesPair pair seen → journal_of (bytes_in_pair pair) ≡ Ok journal → EndsIn seen journal
pair_ends pair seen journal sees reads = stands_so pair.primary seen journal sees.sound.primary sees.stands (ap (λ (state : ServiceState). state.store) sees.state_is) reads
