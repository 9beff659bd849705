-- A document that was read can be run over the store that it begins with, and over two that begin
-- alike.
use Rattle.std.proofs.Common.{◌≡◌, ◌∙◌, refl, sym, ap, subst, ℕ, ◌≤◌, ◌^◌, true, false, List, Ok, if◌then◌else◌, arith}
use Rattle.std.specs.Prelude.{Bool, ◌&&◌}
use Rattle.disk_model.specs.Disk.{DiskState, IsSettled, new_disk}
use Rattle.disk_model.specs.Mem.{mem_state}
use Rattle.disk_model.specs.declared.mem.MemDisk.{MemDisk}
use Rattle.json_form.proofs.Offered.{both_true}
use Rattle.mutable_values.specs.declared.grants.Grants.{Grants}
use Rattle.commit_log.specs.declared.journal.Journal.{Journal}
use Rattle.commit_log.specs.meaning.Journals.{journal_of}
use Rattle.outage_schedule.specs.declared.document.Client.{Client}
use Rattle.outage_schedule.specs.declared.document.Document.{Document}
use Rattle.outage_schedule.specs.declared.event.Event.{Event}
use Rattle.doc_reader.specs.Keeping.{IsDocument}
use Rattle.run_clauses.specs.meaning.Before.{base_of, journal_before}
use Rattle.run_clauses.specs.meaning.ServiceBase.{grants_of, service_base}
use Rattle.server_model.specs.meaning.Base.{Base}
use Rattle.server_model.specs.Base.{IsSound}
use Rattle.server_model.specs.Seen.{Seen, IsNew}
use Rattle.service_core.specs.Seeing.{SeesIn, state_in}
use Rattle.service_core.specs.Starting.{CanBegin, base_of as begins_with, made_on, seen_new}
use Rattle.service_core.specs.Within.{Within}
use Rattle.standby_ship.specs.Seeing.{SeesPair}
use Rattle.standby_ship.specs.Starting.{made_of, seen_new as seen_new_pair}
use Rattle.standby_ship.specs.Twins.{Twin, state_in as state_of_pair}
use Rattle.world_model.specs.meaning.Machines.{per_record_of}
use Rattle.world_model.specs.meaning.Settings.{rules_of}
use Rattle.continuity_run.specs.declared.store.Store.{Store}
use Rattle.continuity_run.specs.Runs.{IsRunOf}
use Rattle.continuity_run.specs.Stores.{IsStoreOf}
use Rattle.continuity_run.proofs.Documents.{are_limits}
use Rattle.continuity_run.proofs.StartRoom.{begins_low}

module _ (document : Document) (is : IsDocument document) (store : Store) (made : IsStoreOf (base_of document) document.image store) where
  low : (journal_before document).incarnation ≤ 2 ^ 62
  low = begins_low document.tables document.sequences (base_of document) document.image is.begins

  pub can_begin : CanBegin (mem_state store.disk)
  can_begin = record {
    settled = made.settled;
    stop = made.untroubled.unstopped;
    faults = let none = made.no_fault in omega (arith, none);
    journal = journal_before document;
    reads = made.reads;
    room = low;
  }

  -- a disk with the same bytes can begin with them too
  pub copy_can_begin : (second : MemDisk) (bytes : List ℕ) → mem_state second ≡ new_disk bytes → bytes ≡ (mem_state store.disk).now.seen → IsSettled (mem_state second) → CanBegin (mem_state second)
  copy_can_begin second bytes new same settled = record {
    settled = settled;
    stop = ap (λ (disk : DiskState). disk.stop) new;
    faults = let none = ap (λ (disk : DiskState). disk.faults) new in omega (arith, none);
    journal = journal_before document;
    reads = ap (λ (disk : DiskState). journal_of disk.now.seen) new ∙ ap journal_of same ∙ made.reads;
    room = low;
  }

  -- whatever is seen of a new service that goes by the document
  begins_so : (sees : Seen → Type 0) (scripts : List Client) (schedule : List Event) (seen : Seen) → scripts ≡ document.clients → schedule ≡ document.schedule → sees seen → IsNew seen → seen.state.is_quiet ≡ true
      → seen.state.per_record ≡ per_record_of document.service → seen.start ≡ service_base document → IsSound (service_base document)
      → IsRunOf sees (rules_of document.service.failover document.service.consistency) document.service scripts schedule store.found.is_opened document
  begins_so sees scripts schedule seen same_scripts same_schedule seen_so new quiet records start sound = record {
    kept = is;
    schedule_is = sym same_schedule;
    seen = seen;
    begins = record {
      service = refl;
      clients = sym same_scripts;
      calls = (are_limits document is).have_calls;
      rules_are = refl;
      opened_is = made.opened;
      seen_so = seen_so;
      new = new;
      quiet = quiet;
      per_record = records;
      start = start;
      sound = sound;
      room = low;
    };
  }

  begins : (grants : Grants) → grants ≡ grants_of document.service.keep → begins_with (journal_before document) grants ≡ service_base document
  begins grants granted = ap (λ (g : Grants). begins_with (journal_before document) g) granted

  pub run_begins : (scripts : List Client) (schedule : List Event) (grants : Grants) (service : Within) → document.service.standby ≡ false → scripts ≡ document.clients → schedule ≡ document.schedule → grants ≡ grants_of document.service.keep
      → service ≡ made_on (mem_state store.disk) grants
      → ((journal : Journal) → journal_of (mem_state store.disk).now.seen ≡ Ok journal → IsSound (begins_with journal grants))
      → ((journal : Journal) → journal_of (mem_state store.disk).now.seen ≡ Ok journal → SeesIn service (seen_new service (begins_with journal grants)) × IsNew (seen_new service (begins_with journal grants)))
      → IsRunOf (SeesIn service) (rules_of document.service.failover document.service.consistency) document.service scripts schedule store.found.is_opened document
  run_begins scripts schedule grants service alone same_scripts same_schedule granted on sound seen =
      let base = begins grants granted in
      let new = seen (journal_before document) made.reads in
      begins_so (SeesIn service) scripts schedule (seen_new service (service_base document)) same_scripts same_schedule
      (subst (λ (start : Base). SeesIn service (seen_new service start)) base new.0) (subst (λ (start : Base). IsNew (seen_new service start)) base new.1)
      (ap (λ (s : Within). (state_in s).is_quiet) on ∙ made.untroubled.quiet) (sym (ap (λ (standby : Bool). if standby then 8 else 4) alone)) refl (subst IsSound base (sound (journal_before document) made.reads))

  pub pair_begins : (scripts : List Client) (schedule : List Event) (grants : Grants) (second : MemDisk) (bytes : List ℕ) (pair : Twin) → document.service.standby ≡ true → scripts ≡ document.clients → schedule ≡ document.schedule
      → grants ≡ grants_of document.service.keep → mem_state second ≡ new_disk bytes → pair ≡ made_of (mem_state store.disk) (mem_state second) grants
      → ((journal : Journal) → journal_of (mem_state store.disk).now.seen ≡ Ok journal → IsSound (begins_with journal grants))
      → ((journal : Journal) → journal_of (mem_state store.disk).now.seen ≡ Ok journal → SeesPair pair (seen_new_pair pair (begins_with journal grants)) × IsNew (seen_new_pair pair (begins_with journal grants)))
      → IsRunOf (SeesPair pair) (rules_of document.service.failover document.service.consistency) document.service scripts schedule store.found.is_opened document
  pair_begins scripts schedule grants second bytes pair two same_scripts same_schedule granted fresh of sound seen =
      let base = begins grants granted in
      let new = seen (journal_before document) made.reads in
      let quiet : ((mem_state store.disk).quiet && ((mem_state second).quiet && true)) ≡ true =
      both_true _ _ made.untroubled.quiet (both_true _ _ (ap (λ (disk : DiskState). disk.quiet) fresh) refl) in
      begins_so (SeesPair pair) scripts schedule (seen_new_pair pair (service_base document)) same_scripts same_schedule
      (subst (λ (start : Base). SeesPair pair (seen_new_pair pair start)) base new.0) (subst (λ (start : Base). IsNew (seen_new_pair pair start)) base new.1)
      (ap (λ (p : Twin). (state_of_pair p).is_quiet) of ∙ quiet)
      (ap (λ (p : Twin). (state_of_pair p).per_record) of ∙ sym (ap (λ (standby : Bool). if standby then 8 else 4) two)) refl (subst IsSound base (sound (journal_before document) made.reads))
